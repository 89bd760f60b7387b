use Rattle.std.proofs.Common.{◌≡◌, sym, ◌∙◌, arith}
use Rattle.log_laws.proofs.Exports.{all_below-more, all_below-fails}
use Rattle.tangent_bound.specs.SlopeLows.{has_small_potential}
use Rattle.tangent_bound.proofs.slope_planes.are_small.Goals as goal

pub returns-then-not-is_small : goal.returns-then-not-is_small
returns-then-not-is_small c =
    sym (all_below-fails c.args.n (has_small_potential c.args.plane.now.lam) c.loop-i.i c.loop-i-test.true (sym c.is_small.ensures ∙ c.if-not-is_small.true))

pub loop-i-preserved : goal.loop-i-preserved
loop-i-preserved c = all_below-more c.loop-i.i (has_small_potential c.args.plane.now.lam) c.loop-i.invariant (sym c.is_small.ensures ∙ c.if-not-is_small.false)

pub returns : goal.returns
returns c =
    let end : c.loop-i.i ≡ c.args.n = omega arith in
    sym (rw end at c.loop-i.invariant)
