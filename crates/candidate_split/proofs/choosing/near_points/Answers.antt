use Rattle.std.specs.List.{Contains}
use Rattle.std.proofs.lemmas.List.Elements.{All-contains, All-get_or}
use Rattle.candidate_split.specs.Points.{IsNear}
use Rattle.candidate_split.proofs.choosing.near_points.Goals as goal

pub returns-clause-points : goal.returns-clause-points
returns-clause-points c k d h =
    let points = c.points_of-points.result.items in
    All-contains (IsNear c.args.params.now.case.n) points _ c.points_of-points.ensures.points
    (All-get_or (Contains points) c.chosen.result.items k d h c.chosen.ensures.theirs)
