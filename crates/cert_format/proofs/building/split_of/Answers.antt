use Rattle.std.proofs.Common.{◌∙◌, ap, arith, length, List}
use Rattle.std.specs.List.{list_all}
use Rattle.std.proofs.lemmas.List.FromFn.{length-map-range_with_len}
use Rattle.case_types.specs.Ranges.{are_parts, is_packing}
use Rattle.case_types.specs.declared.phases.Phase.{Phase}
use Rattle.cert_format.specs.Building.{phase_on}
use Rattle.cert_format.proofs.SplitFacts.{all_parted, all_packed}
use Rattle.cert_format.proofs.Whole.{is_counted}
use Rattle.cert_format.proofs.building.split_of.Goals as goal

pub invariant_of-result : goal.invariant_of-result
invariant_of-result c =
    let d = c.args.lines.now in
    record {
      positive = c.part.ensures.low;
      small = c.part.ensures.high;
      some = omega (arith, ap (λ (fs : List Phase). length fs) c.phases_of.ensures, length-map-range_with_len (phase_on d) 0 d.shape.phases, (is_counted d c.requires).phase);
      parted = ap (list_all (λ (f : Phase). are_parts f.parts)) c.phases_of.ensures ∙ all_parted d c.requires;
      packed = ap (list_all (λ (f : Phase). is_packing f.packing)) c.phases_of.ensures ∙ all_packed d;
    }
