use Rattle.std.proofs.Common.{◌≡◌, ℕ, ℤ, pos, Some, slice_index, refl, sym, ap, ◌∙◌, arith, ◌*ℤ◌}
use Rattle.log_laws.specs.Whole.{floor_over, ceil_over}
use Rattle.case_types.specs.Arithmetic.Bounds.{one, potential, plane_sum}
use Rattle.case_types.specs.Arithmetic.Numbers.{numbers_of}
use Rattle.log_laws.specs.Interval.{ends}
use Rattle.log_laws.proofs.Exports.{back, sum-same}
use Rattle.pr_params.proofs.Exports.{count_of}
use Rattle.slope_form.specs.Arithmetic.{capped}
use Rattle.slope_form.specs.Forms.{form_if}
use Rattle.tangent_bound.specs.SlopeLows.{centre, have_small_potentials, plane_form}
use Rattle.tangent_bound.proofs.MixForms.{form_by}
use Rattle.tangent_bound.proofs.slope_planes.plane_form.Goals as goal

pub returns-then-not-are_small : goal.returns-then-not-are_small
unfolding plane_form
returns-then-not-are_small c = λ r are.
    let case = c.args.params.now.case in
    let large = ap (λ (n : ℕ). have_small_potentials n c.args.plane.now.lam) (count_of case) ∙ sym c.are_small.ensures ∙ c.if-not-are_small.true in
    rw large refl

pub returns : goal.returns
unfolding plane_form
returns c = λ r are.
    let case = c.args.params.now.case in
    let p = numbers_of case in
    let lam = c.args.plane.now.lam in
    let small = ap (λ (n : ℕ). have_small_potentials n lam) (count_of case) ∙ sym c.are_small.ensures ∙ c.if-not-are_small.false in
    let sum : c.plane_in_middle.result ≡ plane_sum p.count (potential lam) (centre p.count r) =
    c.plane_in_middle.ensures.value
    ∙ sum-same case.n (λ i. potential lam i *ℤ pos (slice_index c.args.x.now.middle i)) (λ i. potential lam i *ℤ pos (centre p.count r i))
    (λ i l. ap (λ (m : ℕ). potential lam i *ℤ pos m) (are.middle i (omega (arith, l, case.few))))
    ∙ ap (λ (n : ℕ). plane_sum n (potential lam) (centre p.count r)) (sym (count_of case)) in
    let at = rw (back c.plane_in_middle.result (omega (arith, c.plane_in_middle.ensures.small))) at c.in_bits-at.ensures ∙ ap (λ (s : ℤ). capped (floor_over s one) (ceil_over s one)) sum in
    rw small (form_by case.n p.count _ _ _ _ _ _ _ _ (λ i. Some (ends (potential lam i) (potential lam i))) (form_if c.mix_form.result) case.some case.few (count_of case) c.mix_form.ensures at refl
    c.potential.ensures c.potential-2.ensures c.potential-3.ensures c.potential-4.ensures)
