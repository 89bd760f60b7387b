use Rattle.std.proofs.Common.{rules, SFits}
use Rattle.std.specs.Int.{w128}
use Rattle.std.proofs.lemmas.Int.{to_z-of_z}
use Rattle.cert_format.proofs.entries.three.Goals as goal

pub returns : goal.returns
returns c =
    let fits_a : SFits w128 c.args.a = search rules in
    let fits_b : SFits w128 c.args.b = search rules in
    let fits_c : SFits w128 c.args.c = search rules in
    simp to_z-of_z at c.saying.ensures
