-- The visits of one tree for each of some cells, in turn.
use Rattle.std.proofs.Common.{◌≡◌, ℕ, List, [], ◌∷◌, ◌++◌, map, ℤ, refl, sym, ap, ◌∙◌, append_assoc}
use Rattle.case_types.specs.Grid.Cells.{Region, lower_half, upper_half, Mark, Tree, Leaf, Node, Ends, Halves, Visit, visits}
use Rattle.energy_surface.specs.Searches.{left_visit}
use Rattle.energy_surface.specs.Surfaces.{Surface}

unfoldable pub Finishes : List Region → List Visit → Type 0
Finishes [] rest = rest ≡ []
Finishes (r ∷ below) rest = (t : Tree) × (more : List Visit) × (rest ≡ visits t r ++ more) × Finishes below more

pub finish_leaf : (mark : Mark) (r : Region) (below : List Region) (rest : List Visit) → Finishes below rest →
    Finishes (r ∷ below) (record { region = r; step = Ends mark } ∷ rest)
unfolding Finishes visits
finish_leaf mark r below rest f = (Leaf mark, rest, refl, f)

pub finish_halved : (edge : ℕ) (r : Region) (below : List Region) (rest : List Visit) → Finishes (lower_half edge r ∷ upper_half edge r ∷ below) rest →
    Finishes (r ∷ below) (record { region = r; step = Halves edge } ∷ rest)
unfolding Finishes visits
finish_halved edge r below rest f = (
  Node edge f.0 f.3.0,
  f.3.1,
  ap (λ vs. record { region = r; step = Halves edge } ∷ vs)
      (f.2 ∙ ap (λ vs. visits f.0 (lower_half edge r) ++ vs) f.3.2 ∙ sym (append_assoc (visits f.0 (lower_half edge r)) (visits f.3.0 (upper_half edge r)) f.3.1)),
  f.3.3,
)

-- leaves finish any cells
pub finish_all : (s : Surface) (lam : List ℤ) (left : List Region) → Finishes left (map (left_visit s lam) left)
unfolding Finishes
finish_all s lam [] = refl
finish_all s lam (r ∷ below) = finish_leaf _ r below (map (left_visit s lam) below) (finish_all s lam below)
