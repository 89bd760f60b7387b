use Rattle.tangent_bound.specs.SlopeLows.{cell_form}
use Rattle.tangent_bound.proofs.slope_lows.cell_form.Goals as goal

pub returns : goal.returns
unfolding cell_form
returns c =
    let lift = c.lift_form.ensures in
    let half = c.half_root_form.ensures c.args.params.now.case in
    cc
