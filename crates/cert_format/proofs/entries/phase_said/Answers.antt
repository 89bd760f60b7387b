use Rattle.std.proofs.Common.{rules, SFits, ap, ◌≡◌, ◌∙◌, length, arith}
use Rattle.std.specs.Int.{w128}
use Rattle.std.proofs.lemmas.Int.{to_z-of_z}
use Rattle.cert_format.specs.Heads.{saying}
use Rattle.cert_format.proofs.Phases.{part_read, phase_numbers}
use Rattle.cert_format.proofs.entries.phase_said.Goals as goal

pub returns : goal.returns
returns c =
    let f = c.args.phase.now in
    let small = c.requires.small in
    let four : length f.parts ≡ 4 = search rules in
    let packing : SFits w128 c.from.result = search rules in
    (rw (
      part_read f.parts 0 (omega arith) small,
      part_read f.parts 1 (omega arith) small,
      part_read f.parts 2 (omega arith) small,
      part_read f.parts 3 (omega arith) small,
      c.from.ensures,
    ) at (simp to_z-of_z at c.saying.ensures))
    ∙ ap saying (phase_numbers c.args.n f.packing f.parts four)
