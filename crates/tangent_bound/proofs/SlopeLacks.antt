-- Where a form of its parts isn't there, a cell has no slope low.
use Rattle.std.proofs.Common.{◌≡◌, List, ℤ, Option, Some, None, refl, ap, ◌∙◌, inl, inr}
use Rattle.std.specs.Option.{option_map}
use Rattle.case_types.specs.Arithmetic.Numbers.{Numbers}
use Rattle.case_types.specs.Grid.Cells.{Region}
use Rattle.slope_form.specs.Arithmetic.{both}
use Rattle.slope_form.specs.Forms.{Form, sum_form, difference_form, product_form}
use Rattle.slope_form.specs.Meaning.{low_of}
use Rattle.tangent_bound.specs.SlopeLows.{MixForms, PackingForms, plus, minus, times, over, lift_form, half_root_form, cell_form, mix_forms, packing_forms, slope_low, step_from, step_to}
use Rattle.tangent_bound.specs.SlopeParts.{LacksMix, LacksPacking}

none_right : (op : Form → Form → Option Form) (a : Option Form) → both op a None ≡ None
none_right op None = refl
none_right op (Some f) = refl

-- ---- the sum, from the left
abbrev mixed : MixForms → PackingForms → Option Form
mixed m s = plus m.mixing s.log_packing

abbrev lifted : Numbers → MixForms → PackingForms → Option Form
lifted p m s = plus (minus (mixed m s) m.log_covolume) (Some (lift_form p))

abbrev ideal : Numbers → MixForms → PackingForms → Option Form
ideal p m s = minus (lifted p m s) s.log_rest

abbrev pulled : Numbers → MixForms → PackingForms → Option Form
pulled p m s = minus (ideal p m s) (times (times m.ratio s.lambda) (Some (half_root_form p)))

abbrev pushed : Numbers → MixForms → PackingForms → Option Form
pushed p m s = plus (pulled p m s) (over m.push (Some s.packing))

-- what goes on from a sum that isn't there
from_ideal : (p : Numbers) (m : MixForms) (s : PackingForms) → ideal p m s ≡ None → cell_form p m s ≡ None
unfolding cell_form
from_ideal p m s h = ap (λ (f : Option Form). minus (plus (minus f (times (times m.ratio s.lambda) (Some (half_root_form p)))) (over m.push (Some s.packing))) m.plane) h

from_mixed : (p : Numbers) (m : MixForms) (s : PackingForms) → mixed m s ≡ None → cell_form p m s ≡ None
from_mixed p m s h = from_ideal p m s (ap (λ (f : Option Form). minus (plus (minus f m.log_covolume) (Some (lift_form p))) s.log_rest) h)

from_pulled : (p : Numbers) (m : MixForms) (s : PackingForms) → pulled p m s ≡ None → cell_form p m s ≡ None
unfolding cell_form
from_pulled p m s h = ap (λ (f : Option Form). minus (plus f (over m.push (Some s.packing))) m.plane) h

from_pull : (p : Numbers) (m : MixForms) (s : PackingForms) → times m.ratio s.lambda ≡ None → cell_form p m s ≡ None
from_pull p m s h =
    from_pulled p m s (ap (λ (f : Option Form). minus (ideal p m s) (times f (Some (half_root_form p)))) h ∙ none_right difference_form (ideal p m s))

mix_lacks : (p : Numbers) (m : MixForms) (s : PackingForms) → LacksMix m → cell_form p m s ≡ None
unfolding cell_form
mix_lacks p m s (inl h) = from_mixed p m s (ap (λ (f : Option Form). plus f s.log_packing) h)
mix_lacks p m s (inr (inl h)) =
    from_ideal p m s (ap (λ (f : Option Form). minus (plus f (Some (lift_form p))) s.log_rest) (ap (λ (f : Option Form). minus (mixed m s) f) h ∙ none_right difference_form (mixed m s)))
mix_lacks p m s (inr (inr (inl h))) = from_pull p m s (ap (λ (f : Option Form). times f s.lambda) h)
mix_lacks p m s (inr (inr (inr (inl h)))) =
    ap (λ (f : Option Form). minus f m.plane) (ap (λ (f : Option Form). plus (pulled p m s) (over f (Some s.packing))) h ∙ none_right sum_form (pulled p m s))
mix_lacks p m s (inr (inr (inr (inr h)))) = ap (λ (f : Option Form). minus (pushed p m s) f) h ∙ none_right difference_form (pushed p m s)

packing_lacks : (p : Numbers) (m : MixForms) (s : PackingForms) → LacksPacking s → cell_form p m s ≡ None
packing_lacks p m s (inl h) = from_mixed p m s (ap (λ (f : Option Form). plus m.mixing f) h ∙ none_right sum_form m.mixing)
packing_lacks p m s (inr (inl h)) = from_ideal p m s (ap (λ (f : Option Form). minus (lifted p m s) f) h ∙ none_right difference_form (lifted p m s))
packing_lacks p m s (inr (inr h)) = from_pull p m s (ap (λ (f : Option Form). times m.ratio f) h ∙ none_right product_form m.ratio)

-- ---- the slope low of a cell
low_lacks : (p : Numbers) (lam : List ℤ) (r : Region) → cell_form p (mix_forms p lam r) (packing_forms p r.ylo r.yhi) ≡ None → slope_low p lam r ≡ None
unfolding slope_low
low_lacks p lam r h = ap (option_map (λ (f : Form). low_of f (step_from r) (step_to r))) h

pub none_without_mix : (p : Numbers) (lam : List ℤ) (r : Region) → LacksMix (mix_forms p lam r) → slope_low p lam r ≡ None
none_without_mix p lam r h = low_lacks p lam r (mix_lacks p (mix_forms p lam r) (packing_forms p r.ylo r.yhi) h)

pub none_without_packing : (p : Numbers) (lam : List ℤ) (r : Region) → LacksPacking (packing_forms p r.ylo r.yhi) → slope_low p lam r ≡ None
none_without_packing p lam r h = low_lacks p lam r (packing_lacks p (mix_forms p lam r) (packing_forms p r.ylo r.yhi) h)
