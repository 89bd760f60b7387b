-- By which of its lows a cell is cleared, or isn't.
use Rattle.std.proofs.Common.{◌≡◌, ℤ, neg_ℤ, ◌≤ℤ◌, ◌<ℤ◌, int_lt, cond, Bool, true, false, List, Option, Some, None, IsFalse, ap, sym, refl, arith}
use Rattle.std.proofs.lemmas.Int.{ints}
use Rattle.case_types.specs.Grid.Cells.{Region, Plain, Sloped, misses, HasLow}
use Rattle.energy_surface.specs.Searches.{IsUncleared, mark_by}
use Rattle.energy_surface.specs.Surfaces.{Surface, Under, plain_low, slope_low, low_by}
use Rattle.box_search.specs.declared.leaves.Leaf.{Leaf}
use Rattle.box_search.specs.Leaves.{IsLeafBy, IsLeft, Clears}

-- by the plain low
pub plain_clears : (u : Under) (r : Region) (leaf : Leaf) → IsFalse (misses u.surface.count r) → leaf.letter ≡ 112 → leaf.low ≡ plain_low u.surface u.plane r →
    neg_ℤ u.delta ≤ℤ leaf.low → Clears u r leaf
plain_clears u r leaf meets letter low h = record {
  mark = Plain;
  cause = (meets, rw (← low) h);
  by = record { letter = letter; low = ap Some (sym low) };
}

-- the greater of both lows is a number that the plain low lies below: it is the slope low
greater_sloped : (s : Surface) (lam : List ℤ) (r : Region) (own bound : ℤ) (o : Option ℤ) → slope_low s lam r ≡ o → plain_low s lam r <ℤ bound →
    low_by s lam r (mark_by (plain_low s lam r) o) ≡ Some own → bound ≤ℤ own → (mark_by (plain_low s lam r) o ≡ Sloped) × HasLow bound o
greater_sloped s lam r own bound None is below at h = absurd (let e : plain_low s lam r ≡ own = cc at in omega (arith, ints, e, below, h))
greater_sloped s lam r own bound (Some z) is below at h = by_test (int_lt (plain_low s lam r) z) at
  where
    by_test : (b : Bool) → low_by s lam r (cond b Sloped Plain) ≡ Some own → (cond b Sloped Plain ≡ Sloped) × (bound ≤ℤ z)
    by_test true e = let same : z ≡ own = cc (is, e) in (refl, omega (arith, ints, same, h))
    by_test false e = absurd (let same : plain_low s lam r ≡ own = cc e in omega (arith, ints, same, below, h))

pub slope_clears : (u : Under) (r : Region) (leaf : Leaf) → IsFalse (misses u.surface.count r) → plain_low u.surface u.plane r <ℤ neg_ℤ u.delta →
    IsLeft u.surface u.plane r leaf → neg_ℤ u.delta ≤ℤ leaf.low → Clears u r leaf
slope_clears u r leaf meets below left h =
    let by : IsLeafBy u.surface u.plane r (mark_by (plain_low u.surface u.plane r) (slope_low u.surface u.plane r)) leaf = rw meets at left in
    let k = greater_sloped u.surface u.plane r leaf.low (neg_ℤ u.delta) (slope_low u.surface u.plane r) refl below by.low h in
    record { mark = Sloped; cause = (meets, below, k.1); by = rw k.0 at by }

-- a number that the greater of both lows lies below: the slope low isn't above it either
greater_unsloped : (s : Surface) (lam : List ℤ) (r : Region) (own bound : ℤ) (o : Option ℤ) → slope_low s lam r ≡ o → plain_low s lam r <ℤ bound →
    low_by s lam r (mark_by (plain_low s lam r) o) ≡ Some own → own <ℤ bound → HasLow bound o → ⊥
greater_unsloped s lam r own bound None is below at less h = h
greater_unsloped s lam r own bound (Some z) is below at less h = by_test (int_lt (plain_low s lam r) z) refl at
  where
    by_test : (b : Bool) → int_lt (plain_low s lam r) z ≡ b → low_by s lam r (cond b Sloped Plain) ≡ Some own → ⊥
    by_test true test e = let same : z ≡ own = cc (is, e) in omega (arith, ints, same, less, h)
    by_test false test e = grind (arith, ints, test, below, h)

pub uncleared : (u : Under) (r : Region) (leaf : Leaf) → IsFalse (misses u.surface.count r) → plain_low u.surface u.plane r <ℤ neg_ℤ u.delta →
    IsLeft u.surface u.plane r leaf → leaf.low <ℤ neg_ℤ u.delta → IsUncleared u r
uncleared u r leaf meets below left less =
    let by : IsLeafBy u.surface u.plane r (mark_by (plain_low u.surface u.plane r) (slope_low u.surface u.plane r)) leaf = rw meets at left in
    record {
      meets = meets;
      below = below;
      not_sloped = λ h. greater_unsloped u.surface u.plane r leaf.low (neg_ℤ u.delta) (slope_low u.surface u.plane r) refl below by.low less h;
    }
