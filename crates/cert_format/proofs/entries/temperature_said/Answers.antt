use Rattle.std.proofs.Common.{rules, SFits, ◌+◌, ◌<◌, pos, ap, sym, ◌∙◌, length, get_or, ◌∷◌, []}
use Rattle.std.specs.Int.{w128}
use Rattle.std.proofs.lemmas.Int.{to_z-of_z}
use Rattle.log_laws.specs.Interval.{ends_of}
use Rattle.log_laws.specs.declared.iv.Iv.{Iv}
use Rattle.case_types.specs.Arithmetic.Tables.{no_ends}
use Rattle.std.proofs.lemmas.List.{get_or-map}
use Rattle.cert_format.specs.Heads.{ends_said}
use Rattle.cert_format.proofs.entries.temperature_said.Goals as goal

pub returns : goal.returns
returns c =
    let root : Iv = get_or c.args.roots.now c.args.i c.index-roots-i.result in
    let inside : c.args.i < length c.args.roots.now = search rules in
    let first : SFits w128 (pos (c.args.i + 1)) = search rules in
    let low : SFits w128 root.lo = search rules in
    let high : SFits w128 root.hi = search rules in
    (simp to_z-of_z at (rw c.from_one.ensures at c.three.ensures))
    ∙ ap (ends_said (pos (c.args.i + 1) ∷ [])) (sym (get_or-map ends_of c.args.roots.now c.args.i c.index-roots-i.result no_ends inside))
