use Rattle.std.proofs.Common.{rules, SFits, ℕ, ◌+◌, ◌<◌, pos, ap, sym, ◌∙◌, length, get_or, ◌∷◌, []}
use Rattle.std.specs.Int.{w128}
use Rattle.std.proofs.lemmas.Int.{to_z-of_z}
use Rattle.log_laws.specs.Interval.{ends_of}
use Rattle.log_laws.specs.declared.iv.Iv.{Iv}
use Rattle.case_types.specs.Arithmetic.Tables.{no_ends}
use Rattle.case_types.specs.Energy.Instances.{pair_place}
use Rattle.std.proofs.lemmas.List.{get_or-map}
use Rattle.cert_format.specs.Heads.{ends_said}
use Rattle.cert_format.proofs.entries.pressure_said.Goals as goal

pub returns : goal.returns
returns c =
    let place : ℕ = pair_place c.args.i c.args.j in
    let root : Iv = get_or c.args.roots.now place c.index-roots-first.result in
    let inside : place < length c.args.roots.now = search rules in
    let first : SFits w128 (pos (c.args.i + 1)) = search rules in
    let second : SFits w128 (pos (c.args.j + 1)) = search rules in
    let low : SFits w128 root.lo = search rules in
    let high : SFits w128 root.hi = search rules in
    (simp to_z-of_z at (rw (c.from_one.ensures, c.from_one-2.ensures) at c.four.ensures))
    ∙ ap (ends_said (pos (c.args.i + 1) ∷ pos (c.args.j + 1) ∷ [])) (sym (get_or-map ends_of c.args.roots.now place c.index-roots-first.result no_ends inside))
