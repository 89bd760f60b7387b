use Rattle.std.proofs.Common.{rules, SFits, to_z-of_z}
use Rattle.std.specs.Int.{w128}
use Rattle.fix_interval.specs.Extremes.{least_product}
use Rattle.fix_interval.proofs.Exports.{least_product_small}
use Rattle.slope_form.proofs.Capped.{floor_small}
use Rattle.slope_form.proofs.ranges.least.Goals as goal

pub returns-clause-small : goal.returns-clause-small
returns-clause-small c =
    let fits : SFits w128 c.mul_ends.result.0 = search rules in
    let small = least_product_small c.args.by c.args.step in
    rw (to_z-of_z fits, c.mul_ends.ensures.lo) (floor_small (least_product c.args.by c.args.step) small)
