use Rattle.std.proofs.Common.{rules, SFits, ◌+◌, pos, ◌≡◌}
use Rattle.std.specs.Int.{w128}
use Rattle.std.proofs.lemmas.Int.{to_z-of_z}
use Rattle.case_types.specs.Energy.Components.{interaction}
use Rattle.cert_format.proofs.entries.interaction_said.Goals as goal

pub returns : goal.returns
returns c =
    let first : SFits w128 (pos (c.args.i + 1)) = search rules in
    let second : SFits w128 (pos (c.args.j + 1)) = search rules in
    let value : c.from.result ≡ interaction c.args.case.now c.args.i c.args.j = search rules in
    let fits : SFits w128 (interaction c.args.case.now c.args.i c.args.j) = search rules in
    simp to_z-of_z at (rw (c.from_one.ensures, c.from_one-2.ensures, value) at c.three.ensures)
