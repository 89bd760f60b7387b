-- From places where the pressure comes to be above that of the case to changes of sign.
use Rattle.std.proofs.Common.{◌≡◌, ℕ, ◌-◌, ◌^◌, ◌≤◌, true, false, [], ◌++◌, length, ◌⊎◌, inl, inr, ℤ, pos, ◌≤ℤ◌, ◌<ℤ◌, Option, Some, None, Bool, arith}
use Rattle.std.specs.Prelude.{int_lt, All, MatchOption}
use Rattle.std.specs.Option.{option_to_list}
use Rattle.std.proofs.lemmas.Int.{ints}
use Rattle.std.proofs.lemmas.List.Elements.{All-nil, All-cons, All-append}
use Rattle.case_types.specs.Arithmetic.Numbers.{Numbers}
use Rattle.case_types.specs.Arithmetic.Bounds.{Box}
use Rattle.cubic_roots.specs.declared.middles.Middles.{Middles}
use Rattle.cubic_roots.specs.Pressures.{middle_covolume, middle_ratio, ChangesSign}
use Rattle.cubic_roots.specs.Middles.{is_above, IsRiseBetween}
use Rattle.cubic_roots.proofs.Excess.{empty_below, full_above}

not_below : (z : ℤ) → int_lt (pos 0) z ≡ false → z ≤ℤ pos 0
not_below z h = grind (arith, ints)

above_zero : (z : ℤ) → int_lt (pos 0) z ≡ true → pos 0 <ℤ z
above_zero z h = grind (arith, ints)

changes_sign : (m : Middles) (p : Numbers) (x : Box) (from to y : ℕ) → pos m.covolume ≡ middle_covolume p x → pos m.ratio ≡ middle_ratio p x →
    IsRiseBetween m from to y → ChangesSign p x y
changes_sign m p x from to y b g h = rw (← b, ← g) (inl (not_below _ h.below, above_zero _ h.above))

-- what is known of a place that was looked for
abbrev pub IsFound : Middles → ℕ → ℕ → Option ℕ → Type 0
IsFound m from to r = MatchOption r ((is_above m from ≡ true) ⊎ (is_above m to ≡ false)) (IsRiseBetween m from to)

each_change : (m : Middles) (p : Numbers) (x : Box) (from to : ℕ) (r : Option ℕ) → pos m.covolume ≡ middle_covolume p x → pos m.ratio ≡ middle_ratio p x →
    IsFound m from to r → All (ChangesSign p x) (option_to_list r)
each_change m p x from to None b g h = All-nil (ChangesSign p x)
each_change m p x from to (Some y) b g h = All-cons (ChangesSign p x) y [] (changes_sign m p x from to y b g h) (All-nil (ChangesSign p x))

pub all_change : (m : Middles) (p : Numbers) (x : Box) (left right : ℕ) (lower upper : Option ℕ) → pos m.covolume ≡ middle_covolume p x → pos m.ratio ≡ middle_ratio p x →
    IsFound m 1 left lower → IsFound m right (2 ^ 40 - 1) upper → All (ChangesSign p x) (option_to_list lower ++ option_to_list upper)
all_change m p x left right lower upper b g h k =
    All-append (ChangesSign p x) (option_to_list lower) (option_to_list upper) (each_change m p x 1 left lower b g h) (each_change m p x right (2 ^ 40 - 1) upper b g k)

-- one at least: from almost empty to the left bend, or from the right bend to almost full
pub some_place : (m : Middles) (left right : ℕ) (lower upper : Option ℕ) → (is_above m left ≡ true) ⊎ (is_above m right ≡ false) →
    IsFound m 1 left lower → IsFound m right (2 ^ 40 - 1) upper → 1 ≤ length (option_to_list lower ++ option_to_list upper)
some_place m left right (Some y) upper e h k = omega arith
some_place m left right None (Some y) e h k = omega arith
some_place m left right None None e h k = absurd (neither (is_above m 1) (is_above m left) (is_above m right) (is_above m (2 ^ 40 - 1)) e h k (empty_below m) (full_above m))
  where
    neither : (empty low high full : Bool) → (low ≡ true) ⊎ (high ≡ false) → (empty ≡ true) ⊎ (low ≡ false) → (high ≡ true) ⊎ (full ≡ false) →
        empty ≡ false → full ≡ true → ⊥
    neither empty low high full (inl a) (inl b) k f g = cc
    neither empty low high full (inl a) (inr b) k f g = cc
    neither empty low high full (inr a) h (inl b) f g = cc
    neither empty low high full (inr a) h (inr b) f g = cc
