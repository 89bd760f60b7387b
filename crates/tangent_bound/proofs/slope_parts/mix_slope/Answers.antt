use Rattle.std.proofs.Common.{◌≡◌, ◌<◌, ◌+◌, ◌∙◌, ℕ, [], ◌∷◌, map, Some, ap, ap₂, sym, inl, subst, zero, suc, arith, slice_index}
use Rattle.log_laws.specs.Interval.{ends, ends_of}
use Rattle.case_types.specs.Arithmetic.Tables.{ends_at}
use Rattle.case_types.specs.Arithmetic.Numbers.{numbers_of}
use Rattle.case_types.specs.Grid.Cells.{Region}
use Rattle.std.specs.Prelude.{nat_lt}
use Rattle.std.proofs.lemmas.Bool.{ltb-false}
use Rattle.pr_params.proofs.Exports.{count_of}
use Rattle.slope_form.specs.Forms.{form_of, form_if, constant_form}
use Rattle.tangent_bound.specs.SlopeLows.{MixForms, centre, covolume_form, mix_forms, log_of_form, over, times, step_from, step_to}
use Rattle.tangent_bound.specs.SlopeParts.{AreFractions, IsMixSlope, LacksMix}
use Rattle.tangent_bound.proofs.SlopeEntries.{log_e_is}
use Rattle.tangent_bound.proofs.MixingForms.{fails_at, mixing_lacks}
use Rattle.tangent_bound.proofs.SlopeLacks.{none_without_mix}
use Rattle.tangent_bound.proofs.SlopeKept.{mix_of_forms, mix_kept, if_none, if_none_by, if_some}
use Rattle.tangent_bound.proofs.slope_parts.mix_slope.Goals as goal

pub returns-then-not-has_each-clause-none : goal.returns-then-not-has_each-clause-none
returns-then-not-has_each-clause-none c = λ r a b.
    let case = c.args.params.now.case in
    let p = numbers_of case in
    let x = c.fractions_of-x.result in
    let are = c.fractions_of-x.ensures r a b in
    let none = fails_at case.n (λ i. nat_lt 0 (slice_index x.middle i)) (sym c.has_each.ensures ∙ c.if-not-has_each.true) in
    let nothing = ltb-false 0 (slice_index x.middle none.at) none.fails in
    let centre_is : slice_index x.middle none.at ≡ centre p.count r none.at = are.middle none.at (omega (arith, none.below, case.few)) ∙ ap (λ (n : ℕ). centre n r none.at) (sym (count_of case)) in
    none_without_mix p c.args.plane.now.lam r (inl (mixing_lacks p r none.at (subst (λ (n : ℕ). none.at < n) (sym (count_of case)) none.below) (omega (arith, nothing, centre_is))))

pub returns-in_err-mixing-clause-none : goal.returns-in_err-mixing-clause-none
returns-in_err-mixing-clause-none c =
    if_none c.from_residual.result _ (λ r a b.
    let case = c.args.params.now.case in
    let p = numbers_of case in
    let are = subst (λ (n : ℕ). AreFractions n r c.fractions_of-x.result) (sym (count_of case)) (c.fractions_of-x.ensures r a b) in
    none_without_mix p c.args.plane.now.lam r (inl (sym (c.in_err-mixing.ensures r are))))

-- the fractions are those of each region with these ends
fractions_are : (c : goal.After-mix_of) (r : Region) → r.lo ≡ c.args.cell.now.lo → r.hi ≡ c.args.cell.now.hi → AreFractions (numbers_of c.args.params.now.case).count r c.fractions_of-x.result
fractions_are c r a b = subst (λ (n : ℕ). AreFractions n r c.fractions_of-x.result) (sym (count_of c.args.params.now.case)) (c.fractions_of-x.ensures r a b)

-- and so are the forms
forms_are : (c : goal.After-mix_of) (r : Region) → r.lo ≡ c.args.cell.now.lo → r.hi ≡ c.args.cell.now.hi →
    ◌≡◌ {A = MixForms} (mix_forms (numbers_of c.args.params.now.case) c.args.plane.now.lam r)
    (record { mixing = Some (form_of c.in_ok-mixing.mixing); log_covolume = form_if c.log_by.result; ratio = form_if c.over.result; push = form_if c.times.result; plane = form_if c.plane_form.result })
forms_are c r a b =
    let case = c.args.params.now.case in
    let p = numbers_of case in
    let are = fractions_are c r a b in
    let lifted = c.covolume_form-lifted.ensures r are in
    let plain = c.covolume_form-plain.ensures r are ∙ ap (λ (l : ℕ). covolume_form p r (16 + l)) c.raised_by.ensures.value in
    mix_of_forms _ _ _ _ _ _ _ _ _ _ (sym (c.in_ok-mixing.ensures r are))
    (sym (c.log_by.ensures ∙ ap₂ log_of_form (c.log2e.ensures.ends ∙ log_e_is case) lifted))
    (sym (c.over.ensures ∙ ap₂ over (c.attraction_form.ensures r are) lifted))
    (sym (c.times.ensures ∙ ap₂ times (ap Some (c.constant.ensures.value ∙ ap constant_form (c.log2e-2.ensures.ends ∙ log_e_is case))) plain))
    (sym (c.plane_form.ensures r are))

steps_are : (c : goal.After-mix_of) (r : Region) → r.lo ≡ c.args.cell.now.lo → r.hi ≡ c.args.cell.now.hi → (j : ℕ) → j < 3 →
    ends_at (map ends_of (c.step.result ∷ c.step-2.result ∷ c.step-3.result ∷ [])) j ≡ ends (step_from r j) (step_to r j)
steps_are c r a b zero l = rw (a, b) c.step.ensures
steps_are c r a b (suc zero) l = rw (a, b) c.step-2.ensures
steps_are c r a b (suc (suc zero)) l = rw (a, b) c.step-3.ensures
steps_are c r a b (suc (suc (suc j))) l = absurd (omega (arith, l))

pub returns-clause-some : goal.returns-clause-some
returns-clause-some c =
    let case = c.args.params.now.case in
    if_some c.mix_of.result (λ m. (r : Region) → r.lo ≡ c.args.cell.now.lo → r.hi ≡ c.args.cell.now.hi → IsMixSlope (numbers_of case) c.args.plane.now.lam r m) (λ m e r a b.
    mix_kept (numbers_of case) c.args.plane.now.lam r c.mix_of.result m _ (c.step.result ∷ c.step-2.result ∷ c.step-3.result ∷ []) e c.mix_of.ensures.some c.mix_of.ensures.steps
    (forms_are c r a b) (steps_are c r a b))

pub returns-clause-none : goal.returns-clause-none
returns-clause-none c =
    let case = c.args.params.now.case in
    if_none_by c.mix_of.result _ _ (λ h r a b.
    none_without_mix (numbers_of case) c.args.plane.now.lam r (subst (λ (m : MixForms). LacksMix m) (sym (forms_are c r a b)) h)) c.mix_of.ensures.none
