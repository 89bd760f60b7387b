-- The entries of a plane from the frame.
use Rattle.std.proofs.Common.{◌≡◌, ℕ, ◌*◌, ◌^◌, ◌<◌, ◌≤◌, List, length, ℤ, pos, ◌*ℤ◌, unsigned_abs, slice_index, refl, ap, ◌∙◌, arith}
use Rattle.std.specs.Prelude.{if◌then◌else◌, nat_eq, nat_le, IsTrue}
use Rattle.std.proofs.lemmas.Int.{ints}
use Rattle.std.proofs.lemmas.Bool.Decides.{nat_tests}
use Rattle.case_types.specs.declared.cases.Case.{Case}
use Rattle.case_types.specs.declared.rounds.Column.{Column}
use Rattle.log_laws.proofs.Exports.{all_below-at, sum-whole}
use Rattle.energy_surface.specs.Program.Bases.{column_at, composition, system, costs_of, AreColumns, IsBasis}
use Rattle.energy_surface.specs.Program.Pivots.{IsPureOptimal}
use Rattle.energy_surface.specs.Program.Solutions.{size, slope}
use Rattle.exact_lp.specs.Frames.{row_of, filled, unit_parts, live_costs, paid, IsFrame}
use Rattle.exact_lp.proofs.WeighedAmounts.{plane_at_row}
use Rattle.exact_lp.proofs.SlopeBounds.{pure_sum, slope_under, slope_bounded}
use Rattle.exact_lp.proofs.AfterPivot.{spans_above}
use Rattle.exact_lp.proofs.LiveParts.{paid_is, along_unit}
use Rattle.exact_lp.proofs.LeavingPlace.{rows_weigh}

at_least : (x : ℕ) → IsTrue (nat_le 1 x) → 1 ≤ x
at_least x h = grind (arith, nat_tests)

times_one : (x : ℤ) → x *ℤ pos 1 ≡ x
times_one x = omega (arith, ints)

pub slope_paid : (n : ℕ) (low : 1 ≤ n) (high : n ≤ 4) (cols : List Column) (at : List ℕ) (s : ℕ) (a b c d : List ℤ) (f : IsFrame (filled n (system cols at)) s a b c d) →
    0 < size n (system cols at) → (i : ℕ) → i < n → paid a b c d (live_costs n cols at) (row_of (unit_parts i)) ≡ slope n (system cols at) (costs_of cols at) i
slope_paid n low high cols at s a b c d f spans i h =
    rw (along_unit a n i h, along_unit b n i h, along_unit c n i h, along_unit d n i h)
    (paid_is n low high cols at s a b c d f (λ k. pos (if nat_eq k i then 1 else 0))
    ∙ plane_at_row n low high (system cols at) (costs_of cols at) (λ k. pos (if nat_eq k i then 1 else 0)) spans
    ∙ pure_sum n (slope n (system cols at) (costs_of cols at)) (λ k. pos (if nat_eq k i then 1 else 0)) 1 i h (λ k g. refl)
    ∙ times_one (slope n (system cols at) (costs_of cols at) i))

pub feed_live : (c : Case) (i : ℕ) → i < c.n → 1 ≤ slice_index c.z i
feed_live c i h = at_least (slice_index c.z i) (all_below-at c.n (λ i. nat_le 1 (slice_index c.z i)) i h c.live)

-- the slopes are small where no pure column is cheaper
pub slope_small : (c : Case) (cols : List Column) (at : List ℕ) → AreColumns c.n cols → IsBasis c cols at → IsPureOptimal c.n cols at → (i : ℕ) → i < c.n →
    unsigned_abs (slope c.n (system cols at) (costs_of cols at) i) ≤ 2 ^ 40 * size c.n (system cols at)
slope_small c cols at good basis optimal i h =
    slope_bounded c.n c.some c.few (system cols at) (costs_of cols at) (slice_index c.z) c.total i h (spans_above c cols at basis)
    (rows_weigh c cols at good basis)
    (sum-whole c.n (slice_index c.z) ∙ ap pos c.added) c.total_high (feed_live c i h) basis.feeds
    (λ k g. good.costs (slice_index at k) (basis.inside k g))
    (λ k g. slope_under c.n (system cols at) (costs_of cols at) (composition (column_at cols k)) (column_at cols k).cost (2 ^ 39) (2 ^ 20) k g
    (λ j l. ap pos (good.pure k j g l)) (good.costs k (inside_of k g)) (optimal k g))
  where
    inside_of : (k : ℕ) → k < c.n → k < length cols
    inside_of k g = omega (arith, g, good.enough)
