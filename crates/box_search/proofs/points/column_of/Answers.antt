use Rattle.std.proofs.Common.{◌≡◌, ◌^◌, ◌<◌, unsigned_abs, arith, ◌∙◌, to_z, of_z}
use Rattle.std.specs.Int.{w64, w128}
use Rattle.std.proofs.lemmas.Int.{ints}
use Rattle.log_laws.specs.Whole.{ceil_over}
use Rattle.log_laws.proofs.Exports.{back}
use Rattle.case_types.specs.Grid.Columns.{point_box}
use Rattle.box_search.proofs.points.column_of.Goals as goal

pub returns-clause-column : goal.returns-clause-column
returns-clause-column g c =
    let up = c.up-up.result in
    let wide = back up (omega (arith, c.up-up.ensures.small)) in
    let small : unsigned_abs up < 2 ^ 49 = rw (c.unsigned_abs.ensures.value, wide) at c.if-unsigned_abs.false in
    let up_read : to_z w64 (of_z w64 (to_z w128 (of_z w128 up))) ≡ up = omega (arith, ints, small) in
    let cost_read : to_z w64 (of_z w64 (to_z w128 (of_z w128 c.cost_of.result))) ≡ c.cost_of.result = omega (arith, ints, c.cost_of.ensures.small) in
    let cost : c.cost_of.result ≡ ceil_over up (2 ^ 10) = rw wide at c.cost_of.ensures.value in
    let value = c.up-up.ensures.value (point_box c.args.point.now.comp) c.args.point.now.logs.packing c.requires.mix c.requires.logs in
    record {
      entries = c.args.point.now.entries;
      point = c.requires.point;
      up = up_read ∙ value;
      small = rw up_read small;
      cost = cost_read ∙ (rw up_read cost);
    }
