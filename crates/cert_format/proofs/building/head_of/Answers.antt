use Rattle.std.proofs.Common.{◌∙◌, SFits, rules, ap}
use Rattle.cert_lines.specs.declared.places.Shape.{Shape}
use Rattle.std.specs.Int.{w128}
use Rattle.std.proofs.lemmas.Int.{to_z-of_z}
use Rattle.cert_format.proofs.MadeHeads.{is_head_of}
use Rattle.cert_format.proofs.building.head_of.Goals as goal

pub returns : goal.returns
returns c =
    let d = c.args.lines.now in
    let u : SFits w128 c.energy_on.result = search rules in
    let low : SFits w128 c.energy_on-2.result = search rules in
    let gap : SFits w128 c.energy_on-3.result = search rules in
    is_head_of d c.requires _ (record {
      version = ap (λ (s : Shape). s.version) c.shape.ensures.value;
      is_case = c.case_of.ensures;
      two = c.ends_on.ensures;
      e = c.ends_on-2.ensures;
      temperature_roots = c.temperature_roots.ensures;
      pressure_roots = c.pressure_roots.ensures;
      sum = c.split_of.ensures.sum;
      phases = c.split_of.ensures.phases;
      u = to_z-of_z w128 c.energy_on.result u ∙ c.energy_on.ensures.value;
      plane = c.plane_of.ensures;
      low = to_z-of_z w128 c.energy_on-2.result low ∙ c.energy_on-2.ensures.value;
      gap = to_z-of_z w128 c.energy_on-3.result gap ∙ c.energy_on-3.ensures.value;
      letters = c.letters.ensures.value;
    })
