-- Lows of leaves over a walk, and what the end of a search says.
use Rattle.std.proofs.Common.{List, [], ◌∷◌, Option, Some, None, ℤ, ◌≤ℤ◌, refl, subst, arith}
use Rattle.std.proofs.lemmas.Int.{ints}
use Rattle.case_types.specs.Grid.Cells.{Region, Misses, Plain, Sloped, Step, Ends, Halves, Visit, visits, Tree, Leaf, Node, lower_half, upper_half, HasLow}
use Rattle.case_types.specs.declared.rounds.Column.{Column}
use Rattle.case_types.specs.Grid.Columns.{point_of}
use Rattle.case_types.specs.Grid.Visits.{HasUnitEdge, EachVisit, OfHand}
use Rattle.case_types.proofs.Exports.{each-map, each-first}
use Rattle.energy_surface.specs.Columns.{IsColumn, Refutes}
use Rattle.energy_surface.specs.Surfaces.{Surface, Under, plain_low, slope_low, IsTreeOver, IsOver}
use Rattle.energy_surface.specs.Searches.{IsStepOver, IsStuck, IsCutOff, IsGrainOf}

has_low_less : (low less : ℤ) (o : Option ℤ) → less ≤ℤ low → HasLow low o → HasLow less o
has_low_less low less None l h = h
has_low_less low less (Some x) l h = omega (arith, ints, l, h)

-- what is over a number is over a lower one
pub step_over_less : (s : Surface) (lam : List ℤ) (low less : ℤ) → less ≤ℤ low → (r : Region) (t : Step) → IsStepOver s lam low r t → IsStepOver s lam less r t
step_over_less s lam low less l r (Ends Misses) h = h
step_over_less s lam low less l r (Ends Plain) h = omega (arith, ints, l, h)
step_over_less s lam low less l r (Ends Sloped) h = has_low_less low less (slope_low s lam r) l h
step_over_less s lam low less l r (Halves edge) h = tt

pub each_over_less : (s : Surface) (lam : List ℤ) (low less : ℤ) → less ≤ℤ low → (vs : List Visit) →
    EachVisit (λ v. IsStepOver s lam low v.region v.step) vs → EachVisit (λ v. IsStepOver s lam less v.region v.step) vs
each_over_less s lam low less l vs h =
    each-map (λ v. IsStepOver s lam low v.region v.step) (λ v. IsStepOver s lam less v.region v.step) (λ v k. step_over_less s lam low less l v.region v.step k) vs h

-- where the walk of a tree is over a number, so is the tree
pub tree_over : (s : Surface) (lam : List ℤ) (low : ℤ) (t : Tree) (r : Region) → EachVisit (λ v. IsStepOver s lam low v.region v.step) (visits t r) → IsTreeOver s lam low t r
unfolding visits IsTreeOver
tree_over s lam low (Leaf mark) r h = h.0
tree_over s lam low (Node edge lower upper) r h =
    let k = each-first (λ v. IsStepOver s lam low v.region v.step) (visits lower (lower_half edge r)) (visits upper (upper_half edge r)) h.1 in
    (tree_over s lam low lower (lower_half edge r) k.0, tree_over s lam low upper (upper_half edge r) k.1)

-- the cell itself as a leaf
pub leaf_over : (s : Surface) (lam : List ℤ) (low : ℤ) (r : Region) → low ≤ℤ plain_low s lam r → IsOver s lam low r
unfolding IsTreeOver
leaf_over s lam low r h = record { tree = Leaf Plain; over = h }

-- the column that is kept cuts the plane off
pub cuts_off : (u : Under) (kept : Column) (left : List Region) → OfHand (IsCutOff u kept) left → IsColumn u.surface kept × Refutes u (point_of kept)
cuts_off u kept [] h = absurd h
cuts_off u kept (hand ∷ rest) h = (h.column, h.refutes)

-- the cell in hand is the one that is named
pub grain_of_hand : (u : Under) (cell : Region) (left : List Region) → OfHand (IsGrainOf u cell) left → IsGrainOf u cell cell
grain_of_hand u cell [] h = absurd h
grain_of_hand u cell (hand ∷ rest) h = record {
  same = refl;
  stuck = subst (IsStuck u) h.same h.stuck;
  one_unit = subst (HasUnitEdge u.surface.count) h.same h.one_unit;
}
