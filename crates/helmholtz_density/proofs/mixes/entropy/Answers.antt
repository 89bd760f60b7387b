use Rattle.std.proofs.Common.{◌≡◌, ◌+◌, ◌∙◌, arith, to_z, slice_index, sym}
use Rattle.std.specs.Int.{w128}
use Rattle.std.proofs.lemmas.Int.{ints}
use Rattle.log_laws.proofs.Exports.{sum-none, sum-next, sum-read, sum_below-more, sum_below-fewer}
use Rattle.helmholtz_density.proofs.mixes.entropy.Goals as goal

pub loop-i-init : goal.loop-i-init
loop-i-init c = record { whole = sym (sum-none _); small = omega arith }

pub loop-i-preserved : goal.loop-i-preserved
loop-i-preserved c =
    let t = c.mixing_at-sum.ensures.small in
    let small = c.loop-i.invariant.small in
    let more = sum_below-more c.loop-i.i (slice_index c.args.x.now.a) in
    let room = sum_below-fewer (c.loop-i.i + 1) 4 (slice_index c.args.x.now.a) (omega (arith, c.loop-i-test.true, c.requires)) in
    let whole = c.args.x.now.not_above in
    let read = sum-read (to_z w128 c.loop-i.sum-bits) c.mixing_at-sum.result (omega (arith, small, more, room, whole)) (omega (arith, t, more, room, whole)) in
    record {
      whole = read ∙ sum-next c.loop-i.i _ _ c.mixing_at-sum.result c.loop-i.invariant.whole c.mixing_at-sum.ensures.value;
      small = rw read (omega (arith, ints, small, t, more));
    }

pub returns-clause-value : goal.returns-clause-value
returns-clause-value c = let e : c.loop-i.i ≡ c.args.n = omega (arith, c.loop-i-test.false) in rw e at c.loop-i.invariant.whole

pub returns-clause-small : goal.returns-clause-small
returns-clause-small c =
    let room = sum_below-fewer c.loop-i.i 4 (slice_index c.args.x.now.a) (omega (arith, c.requires)) in
    omega (arith, c.loop-i.invariant.small, room, c.args.x.now.not_above)
