-- The least low of a walk is small.
use Rattle.std.proofs.Common.{◌≡◌, ◌^◌, ◌≤◌, List, [], ◌∷◌, Option, Some, None, ℤ, unsigned_abs, sym, subst, ◌∙◌, arith}
use Rattle.std.proofs.lemmas.Int.{ints, clamps}
use Rattle.std.specs.Int.{int_min}
use Rattle.fibre_bound.specs.declared.cells.Cell.{Cell}
use Rattle.fibre_bound.specs.Walks.{lesser}
use Rattle.fibre_bound.specs.Lows.{least_of}

-- a least low, if there is one, has size at most 2^106
abbrev pub IsSmall : Option ℤ → Type 0
IsSmall None = Unit {0}
IsSmall (Some z) = unsigned_abs z ≤ 2 ^ 106

lesser_of : (y z : ℤ) → unsigned_abs y ≤ 2 ^ 106 → unsigned_abs z ≤ 2 ^ 106 → unsigned_abs (int_min y z) ≤ 2 ^ 106
lesser_of y z h k = omega (arith, ints, clamps, h, k)

pub small_lesser : (least : Option ℤ) (z : ℤ) → IsSmall least → unsigned_abs z ≤ 2 ^ 106 → unsigned_abs (lesser least z) ≤ 2 ^ 106
small_lesser None z h k = k
small_lesser (Some y) z h k = lesser_of y z h k

-- what is left of cells changes nothing of that
pub small_least : (least : Option ℤ) (cells : List Cell) → IsSmall least → IsSmall (least_of least cells)
unfolding least_of
small_least least [] h = h
small_least least (c ∷ cs) h = small_least (Some (lesser least c.low)) cs (small_lesser least c.low h c.low_small)

-- the number that a walk answers, where there is a least low
pub small_stopped : (least found : Option ℤ) (cells : List Cell) (y low : ℤ) → IsSmall least → found ≡ least_of least cells → found ≡ Some y → low ≡ y → unsigned_abs low ≤ 2 ^ 106
small_stopped least found cells y low h is some same = rw same (subst IsSmall (sym is ∙ some) (small_least least cells h))
