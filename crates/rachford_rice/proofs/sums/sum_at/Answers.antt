use Rattle.std.proofs.Common.{ℕ, ℤ, ◌≡◌, ◌∙◌, arith, ap, sym, slice_index, to_z}
use Rattle.std.specs.Int.{w128}
use Rattle.std.proofs.lemmas.Int.{ints}
use Rattle.log_laws.specs.Sums.{int_sum_below}
use Rattle.log_laws.proofs.Exports.{sum-none}
use Rattle.rachford_rice.specs.Sum.{rachford_rice, transfer}
use Rattle.rachford_rice.proofs.Ratios.{part_small, ratio_some, ratio_most, IsSumSoFar, one_more}
use Rattle.rachford_rice.proofs.sums.sum_at.Goals as goal

pub loop-i-init : goal.loop-i-init
loop-i-init c = record { value = sym (sum-none _); small = omega (arith, ints) }

pub transferred-sum-requires-clause-parts : goal.transferred-sum-requires-clause-parts
transferred-sum-requires-clause-parts c = part_small c.args.case.now c.loop-i.i (omega (arith, c.loop-i-test.true))

pub transferred-sum-requires-clause-some : goal.transferred-sum-requires-clause-some
transferred-sum-requires-clause-some c = ratio_some c.args.case.now.n c.args.k.now c.loop-i.i (omega (arith, c.loop-i-test.true)) c.requires.ratios

pub transferred-sum-requires-clause-most : goal.transferred-sum-requires-clause-most
transferred-sum-requires-clause-most c = ratio_most c.args.case.now.n c.args.k.now c.loop-i.i (omega (arith, c.loop-i-test.true)) c.requires.ratios

pub loop-i-preserved : goal.loop-i-preserved
loop-i-preserved c =
    let few = c.args.case.now.few in
    let f : ℕ → ℤ = λ i. transfer (slice_index c.args.case.now.z i) (slice_index c.args.k.now i) c.args.v in
    let so_far : IsSumSoFar c.loop-i.i f (to_z w128 c.loop-i.sum-bits) = record { value = c.loop-i.invariant.value; small = c.loop-i.invariant.small } in
    let next = one_more c.loop-i.i f (to_z w128 c.loop-i.sum-bits) c.transferred-sum.result (omega (arith, few, c.loop-i-test.true)) so_far
    c.transferred-sum.ensures.value c.transferred-sum.ensures.small in
    record { value = next.value; small = next.small }

pub returns : goal.returns
unfolding rachford_rice
returns c =
    let f : ℕ → ℤ = λ i. transfer (slice_index c.args.case.now.z i) (slice_index c.args.k.now i) c.args.v in
    let last : c.loop-i.i ≡ c.args.case.now.n = omega (arith, c.loop-i-test.false, c.loop-i.auto.i-end) in
    c.loop-i.invariant.value ∙ ap (λ (k : ℕ). int_sum_below k f) last
