use Rattle.std.proofs.Common.{◌∙◌, ◌<◌, sym, arith}
use Rattle.cert_lines.specs.Heads.{count_of}
use Rattle.cert_format.proofs.Live.{of_live}
use Rattle.cert_format.proofs.case_building.row_of.Goals as goal

pub returns-then-i-components : goal.returns-then-i-components
returns-then-i-components c =
    let inside : c.args.i < count_of c.args.lines.now = omega (arith, c.if-i-components.true, c.components.ensures.value) in
    record {
      name = c.live_row.ensures.name ∙ sym (of_live c.args.lines.now c.args.i _ _ inside);
      tc = c.live_row.ensures.tc ∙ sym (of_live c.args.lines.now c.args.i _ _ inside);
      pc = c.live_row.ensures.pc ∙ sym (of_live c.args.lines.now c.args.i _ _ inside);
      w = c.live_row.ensures.w ∙ sym (of_live c.args.lines.now c.args.i _ _ inside);
    }
