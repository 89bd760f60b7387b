-- The parts of slope lows, from their forms one by one.
use Rattle.std.proofs.Common.{◌≡◌, ◌<◌, ℕ, List, ℤ, Option, Some, None, map, refl, sym, ap, subst, ◌∙◌}
use Rattle.std.specs.Prelude.{IfSome, IfNone}
use Rattle.log_laws.specs.Interval.{ends, ends_of}
use Rattle.log_laws.specs.declared.iv.Iv.{Iv}
use Rattle.case_types.specs.declared.parts.MixSlope.{MixSlope}
use Rattle.case_types.specs.declared.parts.PackingSlope.{PackingSlope}
use Rattle.case_types.specs.Arithmetic.Numbers.{Numbers}
use Rattle.case_types.specs.Arithmetic.Tables.{ends_at}
use Rattle.case_types.specs.Grid.Cells.{Region}
use Rattle.slope_form.specs.Forms.{Form}
use Rattle.tangent_bound.specs.SlopeLows.{MixForms, PackingForms, mix_forms, packing_forms, packing_from, packing_to, step_from, step_to}
use Rattle.tangent_bound.specs.SlopeParts.{IsMixSlope, IsPackingSlope, mix_forms_of, packing_forms_of}

pub packing_of_forms : (a a' : Form) (b b' c c' d d' : Option Form) → a ≡ a' → b ≡ b' → c ≡ c' → d ≡ d' →
    ◌≡◌ {A = PackingForms} (record { packing = a; log_packing = b; log_rest = c; lambda = d }) (record { packing = a'; log_packing = b'; log_rest = c'; lambda = d' })
packing_of_forms a a' b b' c c' d d' p q r s = rw (p, q, r, s) refl

pub mix_of_forms : (a a' b b' c c' d d' e e' : Option Form) → a ≡ a' → b ≡ b' → c ≡ c' → d ≡ d' → e ≡ e' →
    ◌≡◌ {A = MixForms} (record { mixing = a; log_covolume = b; ratio = c; push = d; plane = e }) (record { mixing = a'; log_covolume = b'; ratio = c'; push = d'; plane = e' })
mix_of_forms a a' b b' c c' d d' e e' p q r s t = rw (p, q, r, s, t) refl

-- where something holds anyway, it holds where there is none
pub if_none : {A : Type 0} (r : Option A) (P : Type 0) → P → IfNone r P
if_none None P h = h
if_none (Some a) P h = tt

pub if_none_by : {A : Type 0} (r : Option A) (P Q : Type 0) → (P → Q) → IfNone r P → IfNone r Q
if_none_by None P Q f h = f h
if_none_by (Some a) P Q f h = tt

pub packing_kept : (p : Numbers) (yl yh : ℕ) (r : Option PackingSlope) (s : PackingSlope) (f : PackingForms) (step : Iv) → r ≡ Some s → IfSome r (λ s. packing_forms_of s ≡ f) → IfSome r (λ s. s.step ≡ step) →
    packing_forms p yl yh ≡ f → ends_of step ≡ ends (packing_from yl yh) (packing_to yl yh) → IsPackingSlope p yl yh s
packing_kept p yl yh (Some t) s f step e kept same forms at =
    let q : t ≡ s = cc in
    record { forms = forms ∙ sym (subst (λ (s : PackingSlope). packing_forms_of s ≡ f) q kept); step = ap ends_of (subst (λ (s : PackingSlope). s.step ≡ step) q same) ∙ at }
packing_kept p yl yh None s f step e kept same forms at = absurd (cc)

pub mix_kept : (p : Numbers) (lam : List ℤ) (region : Region) (r : Option MixSlope) (s : MixSlope) (f : MixForms) (steps : List Iv) → r ≡ Some s → IfSome r (λ s. mix_forms_of s ≡ f) → IfSome r (λ s. s.steps ≡ steps) →
    mix_forms p lam region ≡ f → ((j : ℕ) → j < 3 → ends_at (map ends_of steps) j ≡ ends (step_from region j) (step_to region j)) → IsMixSlope p lam region s
mix_kept p lam region (Some t) s f steps e kept same forms at =
    let q : t ≡ s = cc in
    let k : s.steps ≡ steps = subst (λ (s : MixSlope). s.steps ≡ steps) q same in
    record { forms = forms ∙ sym (subst (λ (s : MixSlope). mix_forms_of s ≡ f) q kept); steps = λ j l. ap (λ (vs : List Iv). ends_at (map ends_of vs) j) k ∙ at j l }
mix_kept p lam region None s f steps e kept same forms at = absurd (cc)

pub if_some : {A : Type 0} (r : Option A) (P : A → Type 0) → ((a : A) → r ≡ Some a → P a) → IfSome r P
if_some None P h = tt
if_some (Some a) P h = h a refl
