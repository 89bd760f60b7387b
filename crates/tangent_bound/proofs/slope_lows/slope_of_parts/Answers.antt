use Rattle.std.proofs.Common.{rules, ◌≡◌, ◌<◌, ◌≤◌, ◌∙◌, ℕ, zero, suc, ℤ, List, [], ◌∷◌, length, get_or, Option, Some, None, sym, ap, ap₂, arith}
use Rattle.std.specs.Option.{option_map}
use Rattle.log_laws.specs.Between.{Ends}
use Rattle.log_laws.specs.declared.iv.Iv.{Iv}
use Rattle.case_types.specs.declared.parts.MixSlope.{MixSlope}
use Rattle.case_types.specs.declared.parts.PackingSlope.{PackingSlope}
use Rattle.log_laws.proofs.Exports.{back}
use Rattle.case_types.specs.Arithmetic.Numbers.{Numbers, numbers_of}
use Rattle.case_types.specs.Grid.Cells.{Region}
use Rattle.slope_form.specs.Forms.{Form, form_of}
use Rattle.slope_form.specs.Meaning.{low_of}
use Rattle.slope_form.specs.Ranges.{from_of, to_of}
use Rattle.tangent_bound.specs.SlopeLows.{cell_form, slope_low, step_from, step_to}
use Rattle.tangent_bound.specs.SlopeParts.{IsMixSlope, IsPackingSlope, mix_forms_of, packing_forms_of}
use Rattle.tangent_bound.proofs.SlopeEntries.{read_at, low-same}
use Rattle.tangent_bound.proofs.slope_lows.slope_of_parts.Goals as goal

-- the slope low, from the form
from_form : (p : Numbers) (lam : List ℤ) (r : Region) (mix : MixSlope) (packing : PackingSlope) (f : Option Form) → IsMixSlope p lam r mix → IsPackingSlope p r.ylo r.yhi packing →
    f ≡ cell_form p (mix_forms_of mix) (packing_forms_of packing) → option_map (λ (f : Form). low_of f (step_from r) (step_to r)) f ≡ slope_low p lam r
unfolding slope_low
from_form p lam r mix packing f m s e =
    ap (option_map (λ (f : Form). low_of f (step_from r) (step_to r))) (e ∙ ap₂ (cell_form p) (sym m.forms) (sym s.forms))

-- the steps, as they are handed on
steps_are : (p : Numbers) (lam : List ℤ) (r : Region) (mix : MixSlope) (packing : PackingSlope) (a b d : Iv) → IsMixSlope p lam r mix → IsPackingSlope p r.ylo r.yhi packing → 3 ≤ length mix.steps →
    let steps = get_or mix.steps 0 a ∷ get_or mix.steps 1 b ∷ get_or mix.steps 2 d ∷ packing.step ∷ [] in
    (j : ℕ) → j < 4 → (from_of steps j ≡ step_from r j) × (to_of steps j ≡ step_to r j)
steps_are p lam r mix packing a b d m s three zero l =
    let e = read_at mix.steps 0 a (omega (arith, three)) ∙ m.steps 0 (omega arith) in (ap (λ (v : Ends). v.lo) e, ap (λ (v : Ends). v.hi) e)
steps_are p lam r mix packing a b d m s three (suc zero) l =
    let e = read_at mix.steps 1 b (omega (arith, three)) ∙ m.steps 1 (omega arith) in (ap (λ (v : Ends). v.lo) e, ap (λ (v : Ends). v.hi) e)
steps_are p lam r mix packing a b d m s three (suc (suc zero)) l =
    let e = read_at mix.steps 2 d (omega (arith, three)) ∙ m.steps 2 (omega arith) in (ap (λ (v : Ends). v.lo) e, ap (λ (v : Ends). v.hi) e)
steps_are p lam r mix packing a b d m s three (suc (suc (suc zero))) l = (ap (λ (v : Ends). v.lo) s.step, ap (λ (v : Ends). v.hi) s.step)
steps_are p lam r mix packing a b d m s three (suc (suc (suc (suc j)))) l = absurd (omega (arith, l))

pub returns-in_err-form-clause-value : goal.returns-in_err-form-clause-value
returns-in_err-form-clause-value c = λ lam r mix packing.
    c.from_residual.ensures ∙ from_form (numbers_of c.args.params.now.case) lam r c.args.mix.now c.args.packing.now None mix packing c.in_err-form.ensures

pub returns-clause-value : goal.returns-clause-value
returns-clause-value c = λ lam r mix packing.
    let p = numbers_of c.args.params.now.case in
    let f = form_of c.in_ok-form.form in
    let three : 3 ≤ length c.args.mix.now.steps = search rules in
    let small = c.low.ensures.small in
    ap Some (back c.low.result (omega (arith, small)) ∙ c.low.ensures.value
    ∙ low-same f _ _ (step_from r) (step_to r) (steps_are p lam r c.args.mix.now c.args.packing.now c.index-mix-0.result c.index-mix-1.result c.index-mix-2.result mix packing three))
    ∙ from_form p lam r c.args.mix.now c.args.packing.now (Some f) mix packing c.in_ok-form.ensures

pub returns-clause-small : goal.returns-clause-small
returns-clause-small c = let small = c.low.ensures.small in rw (back c.low.result (omega (arith, small))) (omega (arith, small))
