use Rattle.std.proofs.Common.{◌≡◌, ◌∙◌, sym, ap, arith, ℕ, ℤ, pos, ◌≤ℤ◌, ◌*ℤ◌, ◌^◌, to_z, of_z}
use Rattle.std.specs.Int.{w128}
use Rattle.std.proofs.lemmas.Int.{ints}
use Rattle.log_laws.specs.Sums.{int_sum_below}
use Rattle.log_laws.proofs.Exports.{back, sum-none}
use Rattle.case_types.specs.Arithmetic.Numbers.{numbers_of}
use Rattle.case_types.specs.Arithmetic.Bounds.{box_of}
use Rattle.pr_params.specs.Rounding.{fraction_on, row_on, rounded_on}
use Rattle.pr_params.proofs.Sized.{count_of}
use Rattle.pr_params.proofs.Spread.{added, share_at_most, sizes_on}
use Rattle.pr_params.proofs.attraction_means.attraction.Goals as goal
use Rattle.pr_params.proofs.attraction_means.attraction.Goals.{After-rounded}

pub loop-i-init : goal.loop-i-init
loop-i-init c = (sym (sum-none _), omega (arith, ints), omega (arith, ints))

pub loop-i-preserved : goal.loop-i-preserved
loop-i-preserved c =
    let few = c.args.params.now.case.few in
    let f : ℕ → ℤ = λ i. fraction_on c.args.bound (box_of c.args.x.now) i *ℤ row_on c.args.bound (numbers_of c.args.params.now.case) (box_of c.args.x.now) i in
    let inside = c.fraction.ensures.inside in
    let low = c.row.ensures.low in
    let high = c.row.ensures.high in
    let before = c.loop-i.invariant in
    let read = back c.row.result (omega (arith, ints, low, high)) in
    let value = rw (read, c.fraction.ensures.value, c.row.ensures.value) at c.share-sum.ensures.value in
    let plain = rw read at c.share-sum.ensures.value in
    let most = share_at_most c.fraction.result c.row.result inside low in
    added c.loop-i.i f (to_z w128 c.loop-i.sum-bits) c.share-sum.result (2 ^ 103) (omega (arith, few, c.loop-i-test.true)) (omega arith) before.1 before.2
    c.share-sum.ensures.low (omega (arith, ints, plain, most, low, high)) before.0 value

-- the sum at the end of the loop
sum_is : (c : After-rounded) → to_z w128 c.loop-i.sum-bits ≡ int_sum_below (numbers_of c.args.params.now.case).count (λ i. fraction_on c.args.bound (box_of c.args.x.now) i *ℤ row_on c.args.bound (numbers_of c.args.params.now.case) (box_of c.args.x.now) i)
sum_is c =
    let f : ℕ → ℤ = λ i. fraction_on c.args.bound (box_of c.args.x.now) i *ℤ row_on c.args.bound (numbers_of c.args.params.now.case) (box_of c.args.x.now) i in
    let last : c.loop-i.i ≡ c.args.params.now.case.n = omega (arith, c.loop-i-test.false, c.loop-i.auto.i-end) in
    c.loop-i.invariant.0 ∙ ap (λ (k : ℕ). int_sum_below k f) (last ∙ sym (count_of c.args.params.now.case))

pub returns-clause-value : goal.returns-clause-value
returns-clause-value c =
    let all = c.rounded.ensures.small in
    back c.rounded.result (omega (arith, all)) ∙ c.rounded.ensures.value ∙ ap (rounded_on c.args.bound) (sum_is c)

-- how large it is
sizes : (c : After-rounded) → (pos 0 ≤ℤ to_z w128 (of_z w128 c.rounded.result)) × (to_z w128 (of_z w128 c.rounded.result) ≤ℤ pos (2 ^ 66))
sizes c =
    let few = c.args.params.now.case.few in
    let all = c.rounded.ensures.small in
    let before = c.loop-i.invariant in
    let end = c.loop-i.auto.i-end in
    let high = before.2 in
    let s = sizes_on c.args.bound (to_z w128 c.loop-i.sum-bits) (2 ^ 66) before.1 (omega (arith, ints, high, end, few)) in
    rw (back c.rounded.result (omega (arith, all)), c.rounded.ensures.value) s

pub returns-clause-low : goal.returns-clause-low
returns-clause-low c = (sizes c).0

pub returns-clause-high : goal.returns-clause-high
returns-clause-high c = (sizes c).1
