use Rattle.std.proofs.Common.{◌≡◌, ◌<◌, ◌+◌, ◌-◌, [], length, get_or, arith, sym, ap, ◌∙◌, ℕ}
use Rattle.std.specs.Str.{is_utf8}
use Rattle.std.proofs.lemmas.Str.{is_utf8-from_IsUtf8}
use Rattle.csv.specs.Records.{fields_of}
use Rattle.component_table.proofs.Fields.{all-more, all-stops, not_utf8}
use Rattle.component_table.proofs.records.is_text.Goals as goal

pub returns-in-Err : goal.returns-in-Err
returns-in-Err c =
    let inside : c.loop-f.f < length (fields_of c.args.fields.now) = omega (arith, c.len-f-end.ensures) in
    let at : c.loop-f.f ≡ c.loop-f.f + 1 - 1 = omega arith in
    let bad = ap is_utf8 (ap (λ (k : ℕ). get_or (fields_of c.args.fields.now) k []) at ∙ sym c.field_of.ensures) ∙ not_utf8 c.field_of.result.now c.in-Err.ensures.cases.0 in
    sym (c.loop-f.invariant ∙ all-stops is_utf8 (fields_of c.args.fields.now) c.loop-f.f inside bad)

pub loop-f-preserved : goal.loop-f-preserved
loop-f-preserved c =
    let inside : c.loop-f.f < length (fields_of c.args.fields.now) = omega (arith, c.len-f-end.ensures) in
    let at : c.loop-f.f ≡ c.loop-f.f + 1 - 1 = omega arith in
    let good = ap is_utf8 (ap (λ (k : ℕ). get_or (fields_of c.args.fields.now) k []) at ∙ sym c.field_of.ensures) ∙ is_utf8-from_IsUtf8 c.field_of.result.now c.in-Ok.ensures.cases.1 in
    c.loop-f.invariant ∙ all-more is_utf8 (fields_of c.args.fields.now) c.loop-f.f inside good
