-- The parts of the phases, component by component.
use Rattle.std.proofs.Common.{◌≡◌, ℕ, zero, suc, ◌+◌, ◌*◌, ◌<◌, get_or, length, arith, add-one, refl, Bool, true, false, if◌then◌else◌, Option, Some, None, inl, inr}
use Rattle.std.specs.Prelude.{◌==◌}
use Rattle.std.specs.List.{All}
use Rattle.std.proofs.lemmas.Bool.{cases_lt, eqb-true}
use Rattle.std.proofs.lemmas.List.Elements.{All-map}
use Rattle.std.proofs.lemmas.List.Sums.{AllPass-from_list_all}
use Rattle.case_types.specs.declared.phases.Phase.{Phase}
use Rattle.case_types.specs.Arithmetic.Faults.{first_below, or_else}
use Rattle.case_types.specs.Energy.Components.{feed}
use Rattle.case_types.specs.Energy.Divisions.{IsState, Divides, AddsUp, state_of, division_of, parts_in}
use Rattle.case_types.specs.Ranges.{is_packing}
use Rattle.case_types.proofs.Exports.{state_of-is_state}
use Rattle.cert_format.specs.declared.heads.Head.{Head}
use Rattle.cert_format.specs.Heads.{IsHead}
use Rattle.cert_check.specs.Tests.{adds_up_at, first_unbalanced}

-- ---- the first of some numbers
pub first_zero : {X : Type 0} → (f : ℕ → Option X) → first_below 0 f ≡ None
unfolding first_below
first_zero f = refl

pub first_more : {X : Type 0} → (n : ℕ) (f : ℕ → Option X) → first_below n f ≡ None → f n ≡ None → first_below (n + 1) f ≡ None
unfolding first_below
first_more n f h k = rw (add-one n, h) k

pub first_found : {X : Type 0} → (n : ℕ) (f : ℕ → Option X) (i : ℕ) (x : X) → i < n → first_below i f ≡ None → f i ≡ Some x → first_below n f ≡ Some x
unfolding first_below
first_found zero f i x h none found = absurd (omega (arith, h))
first_found (suc n) f i x h none found =
    elim (cases_lt i n) [
      | inl less ↦ rw (first_found n f i x less none found) refl
      | inr more ↦ let e : n ≡ i = omega (arith, h, more) in rw (e, none) found
    ]

pub or_else_none : {X : Type 0} → (a b : Option X) → or_else a b ≡ None → (a ≡ None) × (b ≡ None)
or_else_none None b e = (refl, e)
or_else_none (Some x) b e = absurd (cc e)

first_none : {X : Type 0} → (n : ℕ) (f : ℕ → Option X) (i : ℕ) → i < n → first_below n f ≡ None → f i ≡ None
unfolding first_below
first_none zero f i h e = absurd (omega (arith, h))
first_none (suc n) f i h e =
    let both = or_else_none (first_below n f) (f n) e in
    elim (cases_lt i n) [
      | inl less ↦ first_none n f i less both.0
      | inr more ↦ let same : i ≡ n = omega (arith, h, more) in rw same both.1
    ]

-- ---- components
abbrev pub unbalanced_at : Head → ℕ → Option ℕ
unbalanced_at h i = if adds_up_at h i then None else Some (i + 1)

balanced : (x y i : ℕ) → (if x == y then None else Some (i + 1)) ≡ None → x ≡ y
balanced x y i e = by_test (x == y) refl e
  where
    by_test : (b : Bool) → (x == y) ≡ b → (if b then None else Some (i + 1)) ≡ None → x ≡ y
    by_test true k e = eqb-true x y k
    by_test false k e = absurd cc

adds_up : (h : Head) → first_unbalanced h ≡ None → AddsUp h.params.case (division_of h.split)
unfolding first_unbalanced
adds_up h none i live =
    balanced (h.params.case.total * parts_in (division_of h.split).phases i) (feed h.params.case i * h.split.sum) i (first_none h.params.case.n (unbalanced_at h) i live none)

states : (h : Head) → IsHead h → All (IsState h.params.case.n) (division_of h.split).phases
states h head = All-map (IsState h.params.case.n) state_of h.split.phases.items (λ (k : ℕ) (d : Phase) (l : k < length h.split.phases.items).
    let packed = AllPass-from_list_all (λ (f : Phase). is_packing f.packing) h.split.phases.items h.split.packed k d l in
    state_of-is_state h.params.case.n (get_or h.split.phases.items k d) packed (head.phases k d l))

-- a head whose components all add up states a division of the feed
pub divides : (h : Head) → IsHead h → first_unbalanced h ≡ None → Divides h.params.case (division_of h.split)
divides h head none = record { positive = omega (arith, h.split.positive); phases = states h head; adds_up = adds_up h none }
