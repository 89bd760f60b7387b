use Rattle.std.proofs.Common.{◌≡◌, ◌∙◌, arith, to_z, sym}
use Rattle.std.specs.Int.{w128}
use Rattle.std.proofs.lemmas.Int.{ints}
use Rattle.log_laws.proofs.Exports.{back, sum-none, sum-next, sum-read}
use Rattle.box_search.proofs.PlaneAt.{plane_times_is}
use Rattle.box_search.proofs.planes.plane_sum.Goals as goal

pub loop-i-init : goal.loop-i-init
loop-i-init c = record { whole = sym (sum-none _); small = omega arith }

pub loop-i-preserved : goal.loop-i-preserved
loop-i-preserved c =
    let p = c.potential.ensures.small in
    let s = c.product-sum.ensures.small in
    let small = c.loop-i.invariant.small in
    let term = rw (back c.potential.result (omega (arith, p)), c.potential.ensures.value) at c.product-sum.ensures.value in
    let read = sum-read (to_z w128 c.loop-i.sum-bits) c.product-sum.result (omega (arith, small)) (omega (arith, s)) in
    record {
      whole = read ∙ sum-next c.loop-i.i _ _ c.product-sum.result c.loop-i.invariant.whole term;
      small = rw read (omega (arith, ints, small, s));
    }

pub returns-clause-value : goal.returns-clause-value
returns-clause-value c =
    let e : c.loop-i.i ≡ c.args.n = omega (arith, c.loop-i-test.false, c.loop-i.auto.i-end) in
    plane_times_is c.args.n c.args.plane.now.lam c.args.parts.now (to_z w128 c.loop-i.sum-bits) (rw e at c.loop-i.invariant.whole)
