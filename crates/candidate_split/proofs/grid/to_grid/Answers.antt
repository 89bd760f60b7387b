use Rattle.std.proofs.Common.{◌∙◌, arith}
use Rattle.candidate_split.specs.Grid.{floor_fractions}
use Rattle.candidate_split.proofs.GridSums.{floors_fit, floors_long, floors_past, completed_sum, completed_past}
use Rattle.candidate_split.proofs.grid.to_grid.Goals as goal

pub complete-requires-clause-room : goal.complete-requires-clause-room
complete-requires-clause-room c = rw c.rounded_down.ensures (floors_fit c.args.n c.args.parts.now c.requires.four c.requires.some)

pub returns-clause-whole : goal.returns-clause-whole
returns-clause-whole c =
    let floors = floor_fractions c.args.n c.args.parts.now in
    let long = floors_long c.args.n c.args.parts.now in
    rw (c.complete.ensures, c.rounded_down.ensures)
    (completed_sum c.args.n floors (omega arith) (omega (arith, long, c.requires.four)) (floors_fit c.args.n c.args.parts.now c.requires.four c.requires.some))

pub returns-clause-rest : goal.returns-clause-rest
returns-clause-rest c i past =
    rw (c.complete.ensures, c.rounded_down.ensures)
    (completed_past c.args.n (floor_fractions c.args.n c.args.parts.now) i (omega arith) past ∙ floors_past c.args.n c.args.parts.now i past)
