use Rattle.std.proofs.Common.{◌≡◌, ◌∙◌, arith, to_z, sym, ap, pos, ℕ, ◌*ℤ◌, slice_index}
use Rattle.std.specs.Int.{w128}
use Rattle.std.proofs.lemmas.Int.{ints}
use Rattle.std.proofs.lemmas.Bool.{ltb-true}
use Rattle.log_laws.proofs.Exports.{all_below-at, back, sum-none, sum-next, sum-read}
use Rattle.case_types.specs.Arithmetic.Bounds.{potential}
use Rattle.tangent_bound.specs.SlopeLows.{has_small_potential}
use Rattle.tangent_bound.proofs.slope_planes.plane_in_middle.Goals as goal

pub loop-i-init : goal.loop-i-init
loop-i-init c = record { whole = sym (sum-none _); small = omega arith }

pub part-sum-requires-clause-potential : goal.part-sum-requires-clause-potential
part-sum-requires-clause-potential c =
    let z = potential c.args.plane.now.lam c.loop-i.i in
    let small = ltb-true _ _ (all_below-at c.args.n (has_small_potential c.args.plane.now.lam) c.loop-i.i c.loop-i-test.true c.requires.small) in
    rw (back z (omega (arith, small))) small

pub loop-i-preserved : goal.loop-i-preserved
loop-i-preserved c =
    let z = potential c.args.plane.now.lam c.loop-i.i in
    let one = ltb-true _ _ (all_below-at c.args.n (has_small_potential c.args.plane.now.lam) c.loop-i.i c.loop-i-test.true c.requires.small) in
    let s = c.part-sum.ensures.small in
    let small = c.loop-i.invariant.small in
    let term : c.part-sum.result ≡ z *ℤ pos (slice_index c.args.x.now.middle c.loop-i.i) =
    rw (back z (omega (arith, one))) at c.part-sum.ensures.value ∙ ap (λ (m : ℕ). z *ℤ pos m) c.middle_of.ensures.value in
    let read = sum-read (to_z w128 c.loop-i.sum-bits) c.part-sum.result (omega (arith, small)) (omega (arith, s)) in
    record {
      whole = read ∙ sum-next c.loop-i.i _ _ c.part-sum.result c.loop-i.invariant.whole term;
      small = rw read (omega (arith, ints, small, s));
    }

pub returns-clause-value : goal.returns-clause-value
returns-clause-value c = let e : c.loop-i.i ≡ c.args.n = omega (arith, c.loop-i-test.false, c.loop-i.auto.i-end) in rw e at c.loop-i.invariant.whole
