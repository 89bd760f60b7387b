use Rattle.std.proofs.Common.{◌≡◌, ◌∙◌, ◌≤◌, ◌^◌, ℤ, ◌≤ℤ◌, pos, refl, arith, unsigned_abs, to_z, of_z}
use Rattle.std.specs.Int.{int_min, int_max, w128}
use Rattle.std.proofs.lemmas.Int.{ints}
use Rattle.log_laws.specs.Sums.{least_below, greatest_below}
use Rattle.log_laws.proofs.Exports.{back}
use Rattle.case_types.specs.declared.cases.Case.{Case}
use Rattle.case_types.specs.Arithmetic.Bounds.{Box, covolume_range, covolume_low_by_rest, covolume_high_by_rest}
use Rattle.case_types.specs.Arithmetic.Numbers.{numbers_of}
use Rattle.case_types.specs.Arithmetic.Tables.{ends_at}
use Rattle.case_types.specs.Arithmetic.Bounds.{box_of}
use Rattle.pr_params.proofs.MeansHold.{range_least, range_most, range_in_order, range_from, mean_covolume_held}
use Rattle.pr_params.proofs.ranges.b_range.Goals as goal

-- the lower end as it is read, from the least end and that by the rest
low_read : (c : Case) (box : Box) (a r g : ℤ) → a ≡ least_below c.n (λ i. (ends_at (numbers_of c).covolumes i).lo) (ends_at (numbers_of c).covolumes 0).lo
    → pos (2 ^ 50) ≤ℤ a → a ≤ℤ pos (2 ^ 61) → r ≡ covolume_low_by_rest (numbers_of c) box → unsigned_abs r ≤ 2 ^ 83
    → g ≡ int_max (to_z w128 (of_z w128 a)) (to_z w128 (of_z w128 r)) → unsigned_abs g ≤ 2 ^ 83 → to_z w128 (of_z w128 g) ≡ (covolume_range (numbers_of c) box).lo
low_read c box a r g a_is low high r_is small g_is size =
    back g (omega (arith, size)) ∙ rw (back a (omega (arith, ints, low, high)), back r (omega (arith, small)), a_is, r_is) at g_is
    ∙ (range_from c box).0

-- and the upper end
high_read : (c : Case) (box : Box) (a r g : ℤ) → a ≡ greatest_below c.n (λ i. (ends_at (numbers_of c).covolumes i).hi) (ends_at (numbers_of c).covolumes 0).hi
    → pos (2 ^ 50) ≤ℤ a → a ≤ℤ pos (2 ^ 61) → r ≡ covolume_high_by_rest (numbers_of c) box → unsigned_abs r ≤ 2 ^ 83
    → g ≡ int_min (to_z w128 (of_z w128 a)) (to_z w128 (of_z w128 r)) → unsigned_abs g ≤ 2 ^ 83 → to_z w128 (of_z w128 g) ≡ (covolume_range (numbers_of c) box).hi
high_read c box a r g a_is low high r_is small g_is size =
    back g (omega (arith, size)) ∙ rw (back a (omega (arith, ints, low, high)), back r (omega (arith, small)), a_is, r_is) at g_is
    ∙ (range_from c box).1

pub invariant_of-result : goal.invariant_of-result
invariant_of-result c =
    let p = c.args.params.now in
    let box = box_of c.args.x.now in
    let least = c.least_covolume.ensures in
    let most = c.greatest_covolume.ensures in
    let lo = low_read p.case box c.least_covolume.result c.low_by_rest.result c.greater.result least.value least.low least.high
    c.low_by_rest.ensures.value c.low_by_rest.ensures.small c.greater.ensures.value c.greater.ensures.small in
    let hi = high_read p.case box c.greatest_covolume.result c.high_by_rest.result c.lesser.result most.value most.low most.high
    c.high_by_rest.ensures.value c.high_by_rest.ensures.small c.lesser.ensures.value c.lesser.ensures.small in
    let order = range_in_order p c.args.x.now in
    let low = range_least p.case box p.accepted in
    let high = range_most p.case box p.accepted in
    record {
      ordered = rw (lo, hi) order;
      lo_small = rw lo (omega (arith, ints, order, low, high));
      hi_small = rw hi (omega (arith, ints, order, low, high));
    }

pub returns-clause-ends : goal.returns-clause-ends
returns-clause-ends c =
    let p = c.args.params.now in
    let box = box_of c.args.x.now in
    let least = c.least_covolume.ensures in
    let most = c.greatest_covolume.ensures in
    let lo = low_read p.case box c.least_covolume.result c.low_by_rest.result c.greater.result least.value least.low least.high
    c.low_by_rest.ensures.value c.low_by_rest.ensures.small c.greater.ensures.value c.greater.ensures.small in
    let hi = high_read p.case box c.greatest_covolume.result c.high_by_rest.result c.lesser.result most.value most.low most.high
    c.high_by_rest.ensures.value c.high_by_rest.ensures.small c.lesser.ensures.value c.lesser.ensures.small in
    rw (lo, hi) refl

pub returns-clause-low : goal.returns-clause-low
returns-clause-low c =
    let p = c.args.params.now in
    let box = box_of c.args.x.now in
    let least = c.least_covolume.ensures in
    rw (low_read p.case box c.least_covolume.result c.low_by_rest.result c.greater.result least.value least.low least.high
    c.low_by_rest.ensures.value c.low_by_rest.ensures.small c.greater.ensures.value c.greater.ensures.small)
    (range_least p.case box p.accepted)

pub returns-clause-holds : goal.returns-clause-holds
returns-clause-holds c = λ f inside some.
    rw (returns-clause-ends c) (mean_covolume_held c.args.params.now.case (box_of c.args.x.now) f c.args.params.now.accepted inside some)
