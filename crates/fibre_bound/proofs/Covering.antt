-- A walk covers all packing fractions: each lies in a cell that was cleared, or in one that is left.
use Rattle.std.proofs.Common.{◌≡◌, ℕ, ◌⊎◌, List, [], ◌∷◌, Option, Some, ℤ, ◌≤ℤ◌, inl, inr, refl, subst}
use Rattle.case_types.specs.Arithmetic.Bounds.{one}
use Rattle.fibre_bound.specs.declared.fibres.Fibre.{Fibre}
use Rattle.fibre_bound.specs.declared.fibres.FibreEnd.{FibreEnd}
use Rattle.fibre_bound.specs.declared.fibres.FibreEnd.TheVariants.{Clear, Spent, Grain}
use Rattle.fibre_bound.specs.Walks.{Question, Span, span, middle, low_of, Trail, lesser, Reaches, least_over, EndsSo, LowIs, IsFibre}
use Rattle.fibre_bound.specs.Walks.Reaches.{Begins, Clears, Lowers, Halves}
use Rattle.fibre_bound.proofs.Sound.{lesser_own, lesser_least, over_before, over_first}

-- a packing fraction, by the cells that it lies in, and what holds of the lows of such cells
pub record IsHeld (q : Question) (IsIn : Span → Type 0) (Holds : ℤ → Type 0) : Type 0 where
  pub whole : IsIn (span 0 one)
  pub halves : (c : Span) → IsIn c → IsIn (span c.from (middle c)) ⊎ IsIn (span (middle c) c.to)
  pub low : (c : Span) → IsIn c → Holds (low_of q c)
  pub lower : (a b : ℤ) → a ≤ℤ b → Holds b → Holds a

-- it lies in one of the cells
unfoldable HasCell : (Span → Type 0) → List Span → Type 0
HasCell IsIn [] = ⊥
HasCell IsIn (c ∷ cs) = IsIn c ⊎ HasCell IsIn cs

-- the least low holds, or it lies in one of the cells that are left
abbrev IsCovered : (Span → Type 0) → (ℤ → Type 0) → Trail → Type 0
IsCovered IsIn Holds t = ((z : ℤ) × (t.least ≡ Some z) × Holds z) ⊎ HasCell IsIn t.cells

cleared_holds : (q : Question) (IsIn : Span → Type 0) (Holds : ℤ → Type 0) (least : Option ℤ) (c : Span) (rest : List Span) → IsHeld q IsIn Holds →
    ((z : ℤ) × (least ≡ Some z) × Holds z) ⊎ HasCell IsIn (c ∷ rest) → ((z : ℤ) × (Some (lesser least (low_of q c)) ≡ Some z) × Holds z) ⊎ HasCell IsIn rest
unfolding HasCell
cleared_holds q IsIn Holds least c rest held (inl h) =
    inl (lesser least (low_of q c), refl, held.lower (lesser least (low_of q c)) h.0 (lesser_least least (low_of q c) h.0 h.1) h.2)
cleared_holds q IsIn Holds least c rest held (inr (inl h)) =
    inl (lesser least (low_of q c), refl, held.lower (lesser least (low_of q c)) (low_of q c) (lesser_own least (low_of q c)) (held.low c h))
cleared_holds q IsIn Holds least c rest held (inr (inr h)) = inr h

halved_holds : (q : Question) (IsIn : Span → Type 0) (Holds : ℤ → Type 0) (c : Span) (rest : List Span) → IsHeld q IsIn Holds → HasCell IsIn (c ∷ rest) →
    HasCell IsIn (span c.from (middle c) ∷ span (middle c) c.to ∷ rest)
unfolding HasCell
halved_holds q IsIn Holds c rest held (inl h) = elim (held.halves c h) [
  | inl l ↦ inl l
  | inr u ↦ inr (inl u)
]
halved_holds q IsIn Holds c rest held (inr h) = inr (inr h)

covered : (q : Question) (units : ℕ) (IsIn : Span → Type 0) (Holds : ℤ → Type 0) → IsHeld q IsIn Holds → (t : Trail) → Reaches q units t → IsCovered IsIn Holds t
unfolding HasCell
covered q units IsIn Holds held _ Begins = inr (inl held.whole)
covered q units IsIn Holds held _ (Clears t c rest reaches e clear) =
    cleared_holds q IsIn Holds t.least c rest held
    (subst (λ (l : List Span). ((z : ℤ) × (t.least ≡ Some z) × Holds z) ⊎ HasCell IsIn l) e (covered q units IsIn Holds held t reaches))
covered q units IsIn Holds held _ (Lowers t c rest reaches e opened lower room) = covered q units IsIn Holds held t reaches
covered q units IsIn Holds held _ (Halves t c rest reaches e opened none wide room) =
    elim (subst (λ (l : List Span). ((z : ℤ) × (t.least ≡ Some z) × Holds z) ⊎ HasCell IsIn l) e (covered q units IsIn Holds held t reaches)) [
      | inl h ↦ inl h
      | inr h ↦ inr (halved_holds q IsIn Holds c rest held h)
    ]

-- ---- its end
left_holds : (q : Question) (IsIn : Span → Type 0) (Holds : ℤ → Type 0) (least : Option ℤ) (low : ℤ) (cells : List Span) → IsHeld q IsIn Holds →
    least_over q least cells ≡ Some low → HasCell IsIn cells → Holds low
unfolding HasCell least_over
left_holds q IsIn Holds least low [] held e h = absurd h
left_holds q IsIn Holds least low (c ∷ cs) held e (inl h) =
    held.lower low (low_of q c) (over_first q least low c cs e) (held.low c h)
left_holds q IsIn Holds least low (c ∷ cs) held e (inr h) = left_holds q IsIn Holds (Some (lesser least (low_of q c))) low cs held e h

from_least : (q : Question) (least : Option ℤ) (low z : ℤ) (cells : List Span) → least ≡ Some z → least_over q least cells ≡ Some low → low ≤ℤ z
from_least q least low z cells is e = over_before q z low cells (subst (λ o. least_over q o cells ≡ Some low) is e)

stopped_holds : (q : Question) (IsIn : Span → Type 0) (Holds : ℤ → Type 0) (t : Trail) (low : ℤ) → IsHeld q IsIn Holds → IsCovered IsIn Holds t → least_over q t.least t.cells ≡ Some low → Holds low
stopped_holds q IsIn Holds t low held (inl h) e = held.lower low h.0 (from_least q t.least low h.0 t.cells h.1 e) h.2
stopped_holds q IsIn Holds t low held (inr h) e = left_holds q IsIn Holds t.least low t.cells held e h

clear_holds : (q : Question) (IsIn : Span → Type 0) (Holds : ℤ → Type 0) (t : Trail) (low : ℤ) → IsHeld q IsIn Holds → IsCovered IsIn Holds t → t.cells ≡ [] → low ≡ lesser t.least t.up → Holds low
unfolding HasCell
clear_holds q IsIn Holds t low held (inl h) none e = rw e (held.lower (lesser t.least t.up) h.0 (lesser_least t.least t.up h.0 h.1) h.2)
clear_holds q IsIn Holds t low held (inr h) none e = absurd (subst (HasCell IsIn) none h)

-- the low that a walk answers holds
pub low_holds : (q : Question) (units spent : ℕ) (IsIn : Span → Type 0) (Holds : ℤ → Type 0) (f : Fibre) → IsHeld q IsIn Holds → IsFibre q units spent f → Holds f.low
low_holds q units spent IsIn Holds f held h = by_end f.end h.ends h.low
  where
    far : IsCovered IsIn Holds h.trail
    far = covered q units IsIn Holds held h.trail h.reaches

    by_end : (end : FibreEnd) → EndsSo q units h.trail end → LowIs q h.trail end f.low → Holds f.low
    by_end Clear ends is = clear_holds q IsIn Holds h.trail f.low held far ends is
    by_end Spent ends is = stopped_holds q IsIn Holds h.trail f.low held far is
    by_end (Grain p) ends is = stopped_holds q IsIn Holds h.trail f.low held far is
