use Rattle.std.proofs.Common.{◌≡◌, ◌∙◌, sym, ap, arith, ℕ, ℤ, pos, ◌≤ℤ◌, ◌*ℤ◌, ◌^◌, to_z, of_z}
use Rattle.std.specs.Int.{w128}
use Rattle.std.proofs.lemmas.Int.{ints}
use Rattle.log_laws.specs.Sums.{int_sum_below}
use Rattle.log_laws.proofs.Exports.{back, sum-none}
use Rattle.log_laws.specs.Interval.{ends_of}
use Rattle.case_types.specs.Arithmetic.Numbers.{numbers_of}
use Rattle.case_types.specs.Arithmetic.Tables.{ends_of_pair}
use Rattle.case_types.specs.Arithmetic.Bounds.{box_of}
use Rattle.pr_params.specs.Rounding.{fraction_on, end_on, rounded_on}
use Rattle.pr_params.proofs.Sized.{count_of}
use Rattle.pr_params.proofs.Spread.{added, share_at_most, sizes_on, end_positive, end_most}
use Rattle.pr_params.proofs.attraction_means.row.Goals as goal
use Rattle.pr_params.proofs.attraction_means.row.Goals.{After-rounded}

pub loop-j-init : goal.loop-j-init
loop-j-init c = (sym (sum-none _), omega (arith, ints), omega (arith, ints))

pub share-sum-requires-clause-low : goal.share-sum-requires-clause-low
share-sum-requires-clause-low c =
    let v = c.attraction_of.result in
    let small = c.end.ensures.small in
    rw (back c.end.result (omega (arith, small)), c.end.ensures.value) (end_positive c.args.bound v c.attraction_of.ensures.low)

pub loop-j-preserved : goal.loop-j-preserved
loop-j-preserved c =
    let few = c.args.params.now.case.few in
    let f : ℕ → ℤ = λ j. fraction_on c.args.bound (box_of c.args.x.now) j *ℤ end_on c.args.bound (ends_of_pair (numbers_of c.args.params.now.case).attractions c.args.i j) in
    let v = c.attraction_of.result in
    let small = c.end.ensures.small in
    let inside = c.fraction.ensures.inside in
    let low = end_positive c.args.bound v c.attraction_of.ensures.low in
    let high = end_most c.args.bound v (pos (2 ^ 61)) c.attraction_of.ensures.high in
    let before = c.loop-j.invariant in
    let read = back c.end.result (omega (arith, small)) in
    let value = rw (read, c.fraction.ensures.value, c.end.ensures.value, ap (end_on c.args.bound) c.attraction_of.ensures.ends) at c.share-sum.ensures.value in
    let plain = rw (read, c.end.ensures.value) at c.share-sum.ensures.value in
    let most = share_at_most c.fraction.result (end_on c.args.bound (ends_of v)) inside low in
    added c.loop-j.j f (to_z w128 c.loop-j.sum-bits) c.share-sum.result (2 ^ 101) (omega (arith, few, c.loop-j-test.true)) (omega arith) before.1 before.2
    c.share-sum.ensures.low (omega (arith, ints, plain, most, low, high)) before.0 value

-- the sum at the end of the loop
sum_is : (c : After-rounded) → to_z w128 c.loop-j.sum-bits ≡ int_sum_below (numbers_of c.args.params.now.case).count (λ j. fraction_on c.args.bound (box_of c.args.x.now) j *ℤ end_on c.args.bound (ends_of_pair (numbers_of c.args.params.now.case).attractions c.args.i j))
sum_is c =
    let f : ℕ → ℤ = λ j. fraction_on c.args.bound (box_of c.args.x.now) j *ℤ end_on c.args.bound (ends_of_pair (numbers_of c.args.params.now.case).attractions c.args.i j) in
    let last : c.loop-j.j ≡ c.args.params.now.case.n = omega (arith, c.loop-j-test.false, c.loop-j.auto.j-end) in
    c.loop-j.invariant.0 ∙ ap (λ (k : ℕ). int_sum_below k f) (last ∙ sym (count_of c.args.params.now.case))

pub returns-clause-value : goal.returns-clause-value
returns-clause-value c =
    let all = c.rounded.ensures.small in
    back c.rounded.result (omega (arith, all)) ∙ c.rounded.ensures.value ∙ ap (rounded_on c.args.bound) (sum_is c)

-- how large it is
sizes : (c : After-rounded) → (pos 0 ≤ℤ to_z w128 (of_z w128 c.rounded.result)) × (to_z w128 (of_z w128 c.rounded.result) ≤ℤ pos (2 ^ 63))
sizes c =
    let few = c.args.params.now.case.few in
    let all = c.rounded.ensures.small in
    let before = c.loop-j.invariant in
    let end = c.loop-j.auto.j-end in
    let high = before.2 in
    let s = sizes_on c.args.bound (to_z w128 c.loop-j.sum-bits) (2 ^ 63) before.1 (omega (arith, ints, high, end, few)) in
    rw (back c.rounded.result (omega (arith, all)), c.rounded.ensures.value) s

pub returns-clause-low : goal.returns-clause-low
returns-clause-low c = (sizes c).0

pub returns-clause-high : goal.returns-clause-high
returns-clause-high c = (sizes c).1
