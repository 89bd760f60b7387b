-- The meaning of what the calls answer, from the forms that they answer.
use Rattle.std.specs.Prelude.{IfSome}
use Rattle.std.proofs.Common.{ℕ, zero, suc, ◌^◌, ◌≡◌, sym, arith, pos, ◌≤ℤ◌, ◌<ℤ◌, List, [], ◌∷◌, map, get_or, Option, Some, None}
use Rattle.std.proofs.lemmas.Int.{ints}
use Rattle.log_laws.specs.Between.{Ends}
use Rattle.log_laws.specs.Interval.{ends, ends_of}
use Rattle.log_laws.specs.declared.iv.Iv.{Iv}
use Rattle.log_laws.specs.declared.slope.Slope.{Slope}
use Rattle.slope_form.specs.Forms.{Form, form_of, form_if, constant_form}
use Rattle.slope_form.specs.Laws.{KeepsConstant}
use Rattle.slope_form.proofs.Meanings.{IsForm, constant_means}

ordered_at : (xs : List Iv) (j : ℕ) → (get_or (map ends_of xs) j (ends (pos 0) (pos 0))).lo ≤ℤ (get_or (map ends_of xs) j (ends (pos 0) (pos 0))).hi
ordered_at [] j = omega (arith, ints)
ordered_at (x ∷ xs) zero = x.ordered
ordered_at (x ∷ xs) (suc j) = ordered_at xs j

pub below_top : (v : Iv) → v.hi <ℤ pos (2 ^ 62)
below_top v = let h = v.hi_small in omega (arith, ints, h)

pub is_form : (s : Slope) → IsForm (form_of s)
is_form s = record { at = s.at.ordered; over = s.over.ordered; by = λ j l. ordered_at s.by j; at_top = below_top s.at; over_top = below_top s.over }

pub if_some : (P : Form → Type 0) (r : Option Slope) (q : Option Form) → form_if r ≡ q → ((h : Form) → q ≡ Some h → P h) →
    IfSome r (λ s. P (form_of s))
if_some P None q e f = tt
if_some P (Some s) q e f = f (form_of s) (sym e)

pub constant_kept : (c : Ends) (h : Form) → h ≡ constant_form c → KeepsConstant c h
constant_kept c h e d x b = rw e (constant_means c d x b)
