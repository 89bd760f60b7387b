use Rattle.std.proofs.Common.{rules, SFits, ◌<◌, pos, ap, sym, refl, ◌≡◌, ◌∙◌, length, get_or, []}
use Rattle.std.specs.Int.{w32, w128}
use Rattle.std.proofs.lemmas.Int.{to_z-of_z}
use Rattle.std.proofs.lemmas.List.{get_or-map}
use Rattle.case_types.specs.declared.cases.Row.{Row}
use Rattle.case_types.specs.Energy.Components.{critical_temperature, critical_pressure, acentric_factor}
use Rattle.case_words.specs.Names.{text_of}
use Rattle.cert_lines.specs.Lines.{Said}
use Rattle.cert_format.specs.Heads.{name_of_component}
use Rattle.cert_format.proofs.entries.component_said.Goals as goal

pub returns : goal.returns
returns c =
    let case = c.args.case.now in
    let i = c.args.i in
    let d : Row = c.index-case-i.result in
    let row : Row = get_or case.rows i d in
    let inside : i < length case.rows = search rules in
    let name : text_of row.name ≡ name_of_component case i = sym (get_or-map (λ (r : Row). text_of r.name) case.rows i d [] inside) in
    let narrow : SFits w32 row.w = search rules in
    let tc : c.from.result ≡ pos (critical_temperature case i) = c.from.ensures ∙ ap pos (sym (get_or-map (λ (r : Row). r.tc) case.rows i d 0 inside)) in
    let pc : c.from-2.result ≡ pos (critical_pressure case i) = c.from-2.ensures ∙ ap pos (sym (get_or-map (λ (r : Row). r.pc) case.rows i d 0 inside)) in
    let w : c.from-3.result ≡ acentric_factor case i = (simp to_z-of_z at c.from-3.ensures) ∙ sym (get_or-map (λ (r : Row). r.w) case.rows i d (pos 0) inside) in
    let first : SFits w128 c.from.result = search rules in
    let second : SFits w128 c.from-2.result = search rules in
    let third : SFits w128 c.from-3.result = search rules in
    let fourth : SFits w128 c.from-4.result = search rules in
    let said = simp to_z-of_z at c.four-numbers.ensures in
    rw (name, ap (λ (s : Said). s.numbers) said, tc, pc, w, c.from-4.ensures) refl
