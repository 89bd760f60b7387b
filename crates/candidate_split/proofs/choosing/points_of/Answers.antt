use Rattle.std.proofs.Common.{arith}
use Rattle.std.proofs.lemmas.List.Elements.{All-push}
use Rattle.candidate_split.specs.Points.{IsNear}
use Rattle.candidate_split.proofs.choosing.points_of.Goals as goal

pub loop-trial-preserved : goal.loop-trial-preserved
loop-trial-preserved c = record {
  along = omega (arith, c.push.ensures.len, c.loop-trial.invariant.along);
  near = rw c.push.ensures.items (All-push (IsNear c.args.n) c.loop-trial.points.items c.point_of.result c.loop-trial.invariant.near c.point_of.ensures);
}
