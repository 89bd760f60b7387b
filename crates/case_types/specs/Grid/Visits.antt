-- What is said of the visits of a walk over a tree, and of the cells that have no letter yet.
use Rattle.std.specs.Prelude.{ℕ, ◌||◌, ◌&&◌, ◌==◌, nat_le, nat_lt, Bool, List, [], ◌∷◌, count_by, IsTrue}
use Rattle.case_types.specs.Grid.Cells.{Region, edge_to_halve, is_unit, Visit}

-- the edge that is to be halved has one unit of the grid
abbrev pub HasUnitEdge : ℕ → Region → Type 0
HasUnitEdge n r = IsTrue (is_unit r (edge_to_halve n r))

-- every visit of a walk is as P says
abbrev pub EachVisit : (Visit → Type 0) → List Visit → Type 0
EachVisit P [] = Unit {0}
EachVisit P (v ∷ vs) = P v × EachVisit P vs

-- the letters of edges, each of which costs a unit: `1`, `2`, `3` and `y`
abbrev pub is_edge_letter : ℕ → Bool
is_edge_letter letter = (nat_le 49 letter && nat_lt letter 52) || letter == 121

-- how many of them there are
abbrev pub edges_in : List ℕ → ℕ
edges_in letters = count_by is_edge_letter letters

-- the cell in hand is the first of those that have no letter yet
abbrev pub OfHand : (Region → Type 0) → List Region → Type 0
OfHand P [] = ⊥
OfHand P (hand ∷ rest) = P hand
