use Rattle.std.proofs.Common.{arith}
use Rattle.exact_lp.proofs.LiveParts.{live_light}
use Rattle.exact_lp.proofs.points.live_point.Goals as goal

pub invariant_of-result : goal.invariant_of-result
invariant_of-result c =
    rw (c.live.ensures, c.live-2.ensures, c.live-3.ensures, c.live-4.ensures)
    (record { light = omega (arith, live_light c.args.n c.requires.some c.requires.few c.args.x.now, c.requires.light) })
