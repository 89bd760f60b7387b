-- A head has at most 37 lines.
use Rattle.std.proofs.Common.{◌≡◌, ℕ, ◌+◌, ◌-◌, ◌≤◌, arith, Bool, true, false, if◌then◌else◌, Option, Some, None, inl, inr}
use Rattle.std.specs.Prelude.{◌==◌, nat_lt}
use Rattle.std.proofs.lemmas.Bool.{eqb-true, ltb-true}
use Rattle.cert_lines.specs.declared.places.Place.{Place}
use Rattle.cert_lines.specs.declared.places.Place.TheVariants.{Version, Temperature, Pressure, Count, Edition, Component, Interaction, RootTwo, LogE, TemperatureRoot, PressureRoot, Split, Phase, Upper, Plane, Low, Gap, Letters}
use Rattle.cert_lines.specs.declared.places.Shape.{Shape}
use Rattle.cert_lines.specs.Places.{pairs_of, pair_at, place_at, from_edition, from_components, from_interactions, from_roots, from_pressure_roots, from_split, from_ends}
use Rattle.cert_lines.proofs.Shapes.{chosen}

-- one section in front of others
section : (bound at limit : ℕ) (first : Place) (rest : Option Place) (p : Place) → (rest ≡ Some p → at - bound ≤ limit)
    → (if nat_lt at bound then Some first else rest) ≡ Some p → at ≤ bound + limit
section bound at limit first rest p f e = elim (chosen (nat_lt at bound) (Some first) rest p e) [
  | inl t ↦ omega (arith, ltb-true at bound t.0)
  | inr t ↦ let k = f t.1 in omega (arith, k)
]

-- one line in front of others
line : (k at limit : ℕ) (first : Place) (rest : Option Place) (p : Place) → k ≤ limit → (rest ≡ Some p → at ≤ limit)
    → (if at == k then Some first else rest) ≡ Some p → at ≤ limit
line k at limit first rest p h f e = elim (chosen (at == k) (Some first) rest p e) [
  | inl t ↦ omega (arith, eqb-true at k t.0, h)
  | inr t ↦ f t.1
]

none : (at : ℕ) (p : Place) → None ≡ Some p → at ≤ 4
none at p e = absurd cc

ends_few : (at : ℕ) (p : Place) → from_ends at ≡ Some p → at ≤ 4
unfolding from_ends
ends_few at p e =
    line 0 at 4 Upper _ p (omega arith) (λ e. line 1 at 4 Plane _ p (omega arith) (λ e. line 2 at 4 Low _ p (omega arith)
    (λ e. line 3 at 4 Gap _ p (omega arith) (λ e. line 4 at 4 Letters None p (omega arith) (none at p) e) e) e) e) e

pairs_few : (n : ℕ) → pairs_of n ≤ 6
pairs_few n = by_tests (n == 2) (n == 3) (n == 4)
  where
    by_tests : (a b c : Bool) → (if a then 1 else (if b then 3 else (if c then 6 else 0))) ≤ 6
    by_tests true b c = omega arith
    by_tests false true c = omega arith
    by_tests false false true = omega arith
    by_tests false false false = omega arith

split_few : (s : Shape) (at : ℕ) (p : Place) → s.phases ≤ 4 → from_split s at ≡ Some p → at ≤ 9
unfolding from_split
split_few s at p few e =
    line 0 at 9 Split _ p (omega arith)
    (λ e. let k = section s.phases (at - 1) 4 (Phase (at - 1)) (from_ends (at - 1 - s.phases)) p (ends_few (at - 1 - s.phases) p) e in omega (arith, k, few)) e

pressure_few : (s : Shape) (at : ℕ) (p : Place) → s.phases ≤ 4 → from_pressure_roots s at ≡ Some p → at ≤ 15
unfolding from_pressure_roots
pressure_few s at p few e =
    let k = section (pairs_of s.n) at 9 (PressureRoot (pair_at s.n at).0 (pair_at s.n at).1) (from_split s (at - pairs_of s.n)) p (split_few s (at - pairs_of s.n) p few) e in
    omega (arith, k, pairs_few s.n)

roots_few : (s : Shape) (at : ℕ) (p : Place) → s.n ≤ 4 → s.phases ≤ 4 → from_roots s at ≡ Some p → at ≤ 21
unfolding from_roots
roots_few s at p n few e =
    line 0 at 21 RootTwo _ p (omega arith) (λ e. line 1 at 21 LogE _ p (omega arith)
    (λ e. let k = section s.n (at - 2) 15 (TemperatureRoot (at - 2)) (from_pressure_roots s (at - 2 - s.n)) p (pressure_few s (at - 2 - s.n) p few) e in omega (arith, k, n)) e) e

interactions_few : (s : Shape) (at : ℕ) (p : Place) → s.n ≤ 4 → s.phases ≤ 4 → from_interactions s at ≡ Some p → at ≤ 27
unfolding from_interactions
interactions_few s at p n few e =
    let k = section (pairs_of s.n) at 21 (Interaction (pair_at s.n at).0 (pair_at s.n at).1) (from_roots s (at - pairs_of s.n)) p (roots_few s (at - pairs_of s.n) p n few) e in
    omega (arith, k, pairs_few s.n)

components_few : (s : Shape) (at : ℕ) (p : Place) → s.n ≤ 4 → s.phases ≤ 4 → from_components s at ≡ Some p → at ≤ 31
unfolding from_components
components_few s at p n few e =
    let k = section s.n at 27 (Component at) (from_interactions s (at - s.n)) p (interactions_few s (at - s.n) p n few) e in
    omega (arith, k, n)

edition_few : (s : Shape) (at : ℕ) (p : Place) → s.n ≤ 4 → s.phases ≤ 4 → from_edition s at ≡ Some p → at ≤ 32
unfolding from_edition
edition_few s at p n few e = elim (chosen (s.version == 2) _ (from_components s at) p e) [
  | inl t ↦ line 0 at 32 Edition _ p (omega arith) (λ e. let k = components_few s (at - 1) p n few e in omega (arith, k)) t.1
  | inr t ↦ let k = components_few s at p n few t.1 in omega (arith, k)
]

pub few_lines : (s : Shape) (at : ℕ) (p : Place) → s.n ≤ 4 → s.phases ≤ 4 → place_at s at ≡ Some p → at ≤ 36
unfolding place_at
few_lines s at p n few e =
    line 0 at 36 Version _ p (omega arith) (λ e. line 1 at 36 Temperature _ p (omega arith) (λ e. line 2 at 36 Pressure _ p (omega arith)
    (λ e. line 3 at 36 Count _ p (omega arith) (λ e. let k = edition_few s (at - 4) p n few e in omega (arith, k)) e) e) e) e
