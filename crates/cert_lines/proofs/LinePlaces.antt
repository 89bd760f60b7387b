-- Lines of a head by their places: each is found at its index, and none elsewhere.
use Rattle.std.proofs.Common.{◌≡◌, ℕ, zero, suc, ◌+◌, ◌-◌, ◌<◌, ◌≤◌, refl, sym, ap, subst, ◌∙◌, arith, Bool, true, false, if◌then◌else◌, Option, Some, None, inl, inr}
use Rattle.std.specs.Prelude.{◌==◌, nat_lt}
use Rattle.std.proofs.lemmas.Bool.{eqb-true, eqb-false, ltb-true, ltb-false, lt-ltb}
use Rattle.cert_lines.specs.declared.places.Place.{Place}
use Rattle.cert_lines.specs.declared.places.Place.TheVariants.{Version, Temperature, Pressure, Count, Edition, Component, Interaction, RootTwo, LogE, TemperatureRoot, PressureRoot, Split, Phase, Upper, Plane, Low, Gap, Letters}
use Rattle.cert_lines.specs.declared.places.Shape.{Shape}
use Rattle.cert_lines.specs.Places.{pairs_of, pair_at, place_at, from_edition, from_components, from_interactions, from_roots, from_pressure_roots, from_split, from_ends}
use Rattle.cert_lines.specs.Indices.{index_of, pair_index, HasLine, PlacesAreFound, LinesAreFound, components_start, interactions_start, roots_start, pressure_roots_start, split_start, ends_start}
use Rattle.cert_lines.proofs.Shapes.{chosen}
use Rattle.cert_lines.proofs.LineText.{some_is}

-- ---- pairs
-- a pair of n components, which has this index
record IsPairOf (n at i j : ℕ) : Type 0 where
  before : i < j
  inside : j < n
  index : pair_index n i j ≡ at

pair_found : (n at : ℕ) → n ≤ 4 → at < pairs_of n → IsPairOf n at (pair_at n at).0 (pair_at n at).1
pair_found zero at few h = absurd (omega (arith, h))
pair_found (suc zero) at few h = absurd (omega (arith, h))
pair_found (suc (suc zero)) zero few h = record { before = omega arith; inside = omega arith; index = refl }
pair_found (suc (suc zero)) (suc at) few h = absurd (omega (arith, h))
pair_found (suc (suc (suc zero))) zero few h = record { before = omega arith; inside = omega arith; index = refl }
pair_found (suc (suc (suc zero))) (suc zero) few h = record { before = omega arith; inside = omega arith; index = refl }
pair_found (suc (suc (suc zero))) (suc (suc zero)) few h = record { before = omega arith; inside = omega arith; index = refl }
pair_found (suc (suc (suc zero))) (suc (suc (suc at))) few h = absurd (omega (arith, h))
pair_found (suc (suc (suc (suc zero)))) zero few h = record { before = omega arith; inside = omega arith; index = refl }
pair_found (suc (suc (suc (suc zero)))) (suc zero) few h = record { before = omega arith; inside = omega arith; index = refl }
pair_found (suc (suc (suc (suc zero)))) (suc (suc zero)) few h = record { before = omega arith; inside = omega arith; index = refl }
pair_found (suc (suc (suc (suc zero)))) (suc (suc (suc zero))) few h = record { before = omega arith; inside = omega arith; index = refl }
pair_found (suc (suc (suc (suc zero)))) (suc (suc (suc (suc zero)))) few h = record { before = omega arith; inside = omega arith; index = refl }
pair_found (suc (suc (suc (suc zero)))) (suc (suc (suc (suc (suc zero))))) few h = record { before = omega arith; inside = omega arith; index = refl }
pair_found (suc (suc (suc (suc zero)))) (suc (suc (suc (suc (suc (suc at)))))) few h = absurd (omega (arith, h))
pair_found (suc (suc (suc (suc (suc n))))) at few h = absurd (omega (arith, few))

record IsIndexOf (n i j : ℕ) : Type 0 where
  inside : pair_index n i j < pairs_of n
  pair : pair_at n (pair_index n i j) ≡ (i, j)

-- below one, two, three and four
pair_back : (n i j : ℕ) → n ≤ 4 → i < j → j < n → IsIndexOf n i j
pair_back n i zero few h k = absurd (omega (arith, h))
pair_back zero i (suc j) few h k = absurd (omega (arith, k))
pair_back (suc zero) i (suc j) few h k = absurd (omega (arith, k))
pair_back (suc (suc zero)) zero (suc zero) few h k = record { inside = omega arith; pair = refl }
pair_back (suc (suc zero)) (suc i) (suc zero) few h k = absurd (omega (arith, h))
pair_back (suc (suc zero)) i (suc (suc j)) few h k = absurd (omega (arith, k))
pair_back (suc (suc (suc zero))) zero (suc zero) few h k = record { inside = omega arith; pair = refl }
pair_back (suc (suc (suc zero))) (suc i) (suc zero) few h k = absurd (omega (arith, h))
pair_back (suc (suc (suc zero))) zero (suc (suc zero)) few h k = record { inside = omega arith; pair = refl }
pair_back (suc (suc (suc zero))) (suc zero) (suc (suc zero)) few h k = record { inside = omega arith; pair = refl }
pair_back (suc (suc (suc zero))) (suc (suc i)) (suc (suc zero)) few h k = absurd (omega (arith, h))
pair_back (suc (suc (suc zero))) i (suc (suc (suc j))) few h k = absurd (omega (arith, k))
pair_back (suc (suc (suc (suc zero)))) zero (suc zero) few h k = record { inside = omega arith; pair = refl }
pair_back (suc (suc (suc (suc zero)))) (suc i) (suc zero) few h k = absurd (omega (arith, h))
pair_back (suc (suc (suc (suc zero)))) zero (suc (suc zero)) few h k = record { inside = omega arith; pair = refl }
pair_back (suc (suc (suc (suc zero)))) (suc zero) (suc (suc zero)) few h k = record { inside = omega arith; pair = refl }
pair_back (suc (suc (suc (suc zero)))) (suc (suc i)) (suc (suc zero)) few h k = absurd (omega (arith, h))
pair_back (suc (suc (suc (suc zero)))) zero (suc (suc (suc zero))) few h k = record { inside = omega arith; pair = refl }
pair_back (suc (suc (suc (suc zero)))) (suc zero) (suc (suc (suc zero))) few h k = record { inside = omega arith; pair = refl }
pair_back (suc (suc (suc (suc zero)))) (suc (suc zero)) (suc (suc (suc zero))) few h k = record { inside = omega arith; pair = refl }
pair_back (suc (suc (suc (suc zero)))) (suc (suc (suc i))) (suc (suc (suc zero))) few h k = absurd (omega (arith, h))
pair_back (suc (suc (suc (suc zero)))) i (suc (suc (suc (suc j)))) few h k = absurd (omega (arith, k))
pair_back (suc (suc (suc (suc (suc n))))) i (suc j) few h k = absurd (omega (arith, few))

-- ---- from an index to its line
-- it has this index, and the shape has it
abbrev IsFound : Shape → ℕ → Place → Type 0
IsFound s at here = HasLine s here × (index_of s here ≡ at)

found_as : (s : Shape) (at : ℕ) (q here : Place) → Some q ≡ Some here → IsFound s at q → IsFound s at here
found_as s at q here e f = subst (IsFound s at) (some_is q here e) f

-- one line in front of others
line : (s : Shape) (k at start : ℕ) (q here : Place) (rest : Option Place) → IsFound s (start + k) q → ((at ≡ k → ⊥) → rest ≡ Some here → IsFound s (start + at) here)
    → (if at == k then Some q else rest) ≡ Some here → IsFound s (start + at) here
line s k at start q here rest first others e = elim (chosen (at == k) (Some q) rest here e) [
  | inl t ↦ subst (λ (i : ℕ). IsFound s (start + i) here) (sym (eqb-true at k t.0)) (found_as s (start + k) q here t.1 first)
  | inr t ↦ others (eqb-false at k t.0) t.1
]

-- a section in front of others
section : (s : Shape) (bound at start : ℕ) (q here : Place) (rest : Option Place) → (at < bound → IsFound s (start + at) q)
    → (rest ≡ Some here → IsFound s (start + bound + (at - bound)) here)
    → (if nat_lt at bound then Some q else rest) ≡ Some here → IsFound s (start + at) here
section s bound at start q here rest first others e = elim (chosen (nat_lt at bound) (Some q) rest here e) [
  | inl t ↦ found_as s (start + at) q here t.1 (first (ltb-true at bound t.0))
  | inr t ↦
      let behind : bound ≤ at = ltb-false at bound t.0 in
      let sum : start + bound + (at - bound) ≡ start + at = omega (arith, behind) in
      subst (λ (k : ℕ). IsFound s k here) sum (others t.1)
]

ends_found : (s : Shape) (at : ℕ) (here : Place) → from_ends at ≡ Some here → IsFound s (ends_start s + at) here
unfolding from_ends index_of
ends_found s at here e =
    line s 0 at (ends_start s) Upper here _ (tt, omega arith) (λ a e. line s 1 at (ends_start s) Plane here _ (tt, refl) (λ a e. line s 2 at (ends_start s) Low here _ (tt, refl)
    (λ a e. line s 3 at (ends_start s) Gap here _ (tt, refl) (λ a e. line s 4 at (ends_start s) Letters here None (tt, refl) (λ a e. absurd (none here e)) e) e) e) e) e
  where
    none : (here : Place) → None ≡ Some here → ⊥
    none here e = cc

split_found : (s : Shape) (at : ℕ) (here : Place) → from_split s at ≡ Some here → IsFound s (split_start s + at) here
unfolding from_split index_of
split_found s at here e =
    line s 0 at (split_start s) Split here _ (tt, omega arith)
    (λ a e. let sum : split_start s + 1 + (at - 1) ≡ split_start s + at = omega (arith, a) in
    subst (λ (k : ℕ). IsFound s k here) sum
    (section s s.phases (at - 1) (split_start s + 1) (Phase (at - 1)) here _ (λ h. (h, refl)) (ends_found s (at - 1 - s.phases) here) e)) e

pressure_found : (s : Shape) (at : ℕ) (here : Place) → s.n ≤ 4 → from_pressure_roots s at ≡ Some here → IsFound s (pressure_roots_start s + at) here
unfolding from_pressure_roots index_of
pressure_found s at here few e =
    section s (pairs_of s.n) at (pressure_roots_start s) (PressureRoot (pair_at s.n at).0 (pair_at s.n at).1) here _
    (λ h. let p = pair_found s.n at few h in ((p.before, p.inside), ap (λ (k : ℕ). pressure_roots_start s + k) p.index))
    (split_found s (at - pairs_of s.n) here) e

roots_found : (s : Shape) (at : ℕ) (here : Place) → s.n ≤ 4 → from_roots s at ≡ Some here → IsFound s (roots_start s + at) here
unfolding from_roots index_of
roots_found s at here few e =
    line s 0 at (roots_start s) RootTwo here _ (tt, omega arith) (λ a e. line s 1 at (roots_start s) LogE here _ (tt, refl)
    (λ b e. let sum : roots_start s + 2 + (at - 2) ≡ roots_start s + at = omega (arith, a, b) in
    subst (λ (k : ℕ). IsFound s k here) sum
    (section s s.n (at - 2) (roots_start s + 2) (TemperatureRoot (at - 2)) here _ (λ h. (h, refl)) (pressure_found s (at - 2 - s.n) here few) e)) e) e

interactions_found : (s : Shape) (at : ℕ) (here : Place) → s.n ≤ 4 → from_interactions s at ≡ Some here → IsFound s (interactions_start s + at) here
unfolding from_interactions index_of
interactions_found s at here few e =
    section s (pairs_of s.n) at (interactions_start s) (Interaction (pair_at s.n at).0 (pair_at s.n at).1) here _
    (λ h. let p = pair_found s.n at few h in ((p.before, p.inside), ap (λ (k : ℕ). interactions_start s + k) p.index))
    (roots_found s (at - pairs_of s.n) here few) e

components_found : (s : Shape) (at : ℕ) (here : Place) → s.n ≤ 4 → from_components s at ≡ Some here → IsFound s (components_start s + at) here
unfolding from_components index_of
components_found s at here few e =
    section s s.n at (components_start s) (Component at) here _ (λ h. (h, refl)) (interactions_found s (at - s.n) here few) e

edition_found : (s : Shape) (at : ℕ) (here : Place) → s.n ≤ 4 → from_edition s at ≡ Some here → IsFound s (4 + at) here
unfolding from_edition index_of
edition_found s at here few e = elim (chosen (s.version == 2) _ (from_components s at) here e) [
  | inl t ↦
      let start : components_start s ≡ 5 = ap (λ (b : Bool). if b then 5 else 4) t.0 in
      line s 0 at 4 Edition here _ (eqb-true s.version 2 t.0, refl)
      (λ a e. let sum : components_start s + (at - 1) ≡ 4 + at = omega (arith, a, start) in
      subst (λ (k : ℕ). IsFound s k here) sum (components_found s (at - 1) here few e)) t.1
  | inr t ↦
      let start : components_start s ≡ 4 = ap (λ (b : Bool). if b then 5 else 4) t.0 in
      subst (λ (k : ℕ). IsFound s (k + at) here) start (components_found s at here few t.1)
]

pub places_are_found : PlacesAreFound
unfolding place_at index_of
places_are_found s few at here e =
    let from_four : (at ≡ 0 → ⊥) → (at ≡ 1 → ⊥) → (at ≡ 2 → ⊥) → (at ≡ 3 → ⊥) → from_edition s (at - 4) ≡ Some here → IsFound s (0 + at) here =
    λ a b c d e. let sum : 4 + (at - 4) ≡ 0 + at = omega (arith, a, b, c, d) in
    subst (λ (k : ℕ). IsFound s k here) sum (edition_found s (at - 4) here few e) in
    let found : IsFound s (0 + at) here =
    line s 0 at 0 Version here _ (tt, refl) (λ a e. line s 1 at 0 Temperature here _ (tt, refl) (λ b e. line s 2 at 0 Pressure here _ (tt, refl)
    (λ c e. line s 3 at 0 Count here _ (tt, refl) (λ d e. from_four a b c d e) e) e) e) e in
    let sum : 0 + at ≡ at = omega arith in
    subst (λ (k : ℕ). IsFound s k here) sum found

-- ---- from a line to its index
-- not this line, past a section, and within one
other : (k at : ℕ) (q : Place) (o : Option Place) → (at ≡ k → ⊥) → (if at == k then Some q else o) ≡ o
other k at q o differs = by_test (at == k) refl
  where
    by_test : (b : Bool) → (at == k) ≡ b → (if b then Some q else o) ≡ o
    by_test true h = absurd (differs (eqb-true at k h))
    by_test false h = refl

past : (n at : ℕ) (q : Place) (o : Option Place) → n ≤ at → (if nat_lt at n then Some q else o) ≡ o
past n at q o h = by_test (nat_lt at n) refl
  where
    by_test : (b : Bool) → nat_lt at n ≡ b → (if b then Some q else o) ≡ o
    by_test true e = absurd (omega (arith, h, ltb-true at n e))
    by_test false e = refl

within : (n at : ℕ) (q : Place) (o : Option Place) → at < n → (if nat_lt at n then Some q else o) ≡ Some q
within n at q o h = ap (λ (b : Bool). if b then Some q else o) (lt-ltb at n h)

at_edition : (s : Shape) (at : ℕ) → place_at s (4 + at) ≡ from_edition s at
unfolding place_at
at_edition s at =
    let back : 4 + at - 4 ≡ at = omega arith in
    other 0 (4 + at) Version _ (λ e. omega (arith, e)) ∙ other 1 (4 + at) Temperature _ (λ e. omega (arith, e)) ∙ other 2 (4 + at) Pressure _ (λ e. omega (arith, e))
    ∙ other 3 (4 + at) Count _ (λ e. omega (arith, e)) ∙ ap (from_edition s) back

at_components : (s : Shape) (at : ℕ) → place_at s (components_start s + at) ≡ from_components s at
unfolding from_edition
at_components s at = by_version (s.version == 2) refl
  where
    by_version : (b : Bool) → (s.version == 2) ≡ b → place_at s ((if b then 5 else 4) + at) ≡ from_components s at
    by_version true e =
        let sum : 5 + at ≡ 4 + (1 + at) = omega arith in
        let back : 1 + at - 1 ≡ at = omega arith in
        ap (place_at s) sum ∙ at_edition s (1 + at) ∙ rw e (other 0 (1 + at) Edition (from_components s (1 + at - 1)) (λ e. omega (arith, e)) ∙ ap (from_components s) back)
    by_version false e = at_edition s at ∙ rw e refl

at_interactions : (s : Shape) (at : ℕ) → place_at s (interactions_start s + at) ≡ from_interactions s at
unfolding from_components
at_interactions s at =
    let sum : interactions_start s + at ≡ components_start s + (s.n + at) = omega arith in
    let back : s.n + at - s.n ≡ at = omega arith in
    ap (place_at s) sum ∙ at_components s (s.n + at) ∙ past s.n (s.n + at) (Component (s.n + at)) _ (omega arith) ∙ ap (from_interactions s) back

at_roots : (s : Shape) (at : ℕ) → place_at s (roots_start s + at) ≡ from_roots s at
unfolding from_interactions
at_roots s at =
    let m = pairs_of s.n in
    let sum : roots_start s + at ≡ interactions_start s + (m + at) = omega arith in
    let back : m + at - m ≡ at = omega arith in
    ap (place_at s) sum ∙ at_interactions s (m + at) ∙ past m (m + at) _ _ (omega arith) ∙ ap (from_roots s) back

at_temperature_roots : (s : Shape) (at : ℕ) → place_at s (roots_start s + 2 + at) ≡ (if nat_lt at s.n then Some (TemperatureRoot at) else from_pressure_roots s (at - s.n))
unfolding from_roots
at_temperature_roots s at =
    let sum : roots_start s + 2 + at ≡ roots_start s + (2 + at) = omega arith in
    let back : 2 + at - 2 ≡ at = omega arith in
    ap (place_at s) sum ∙ at_roots s (2 + at) ∙ other 0 (2 + at) RootTwo _ (λ e. omega (arith, e)) ∙ other 1 (2 + at) LogE _ (λ e. omega (arith, e))
    ∙ ap (λ (k : ℕ). if nat_lt k s.n then Some (TemperatureRoot k) else from_pressure_roots s (k - s.n)) back

at_pressure_roots : (s : Shape) (at : ℕ) → place_at s (pressure_roots_start s + at) ≡ from_pressure_roots s at
at_pressure_roots s at =
    let sum : pressure_roots_start s + at ≡ roots_start s + 2 + (s.n + at) = omega arith in
    let back : s.n + at - s.n ≡ at = omega arith in
    ap (place_at s) sum ∙ at_temperature_roots s (s.n + at) ∙ past s.n (s.n + at) (TemperatureRoot (s.n + at)) _ (omega arith) ∙ ap (from_pressure_roots s) back

at_split : (s : Shape) (at : ℕ) → place_at s (split_start s + at) ≡ from_split s at
unfolding from_pressure_roots
at_split s at =
    let m = pairs_of s.n in
    let sum : split_start s + at ≡ pressure_roots_start s + (m + at) = omega arith in
    let back : m + at - m ≡ at = omega arith in
    ap (place_at s) sum ∙ at_pressure_roots s (m + at) ∙ past m (m + at) _ _ (omega arith) ∙ ap (from_split s) back

at_phases : (s : Shape) (at : ℕ) → place_at s (split_start s + 1 + at) ≡ (if nat_lt at s.phases then Some (Phase at) else from_ends (at - s.phases))
unfolding from_split
at_phases s at =
    let sum : split_start s + 1 + at ≡ split_start s + (1 + at) = omega arith in
    let back : 1 + at - 1 ≡ at = omega arith in
    ap (place_at s) sum ∙ at_split s (1 + at) ∙ other 0 (1 + at) Split _ (λ e. omega (arith, e))
    ∙ ap (λ (k : ℕ). if nat_lt k s.phases then Some (Phase k) else from_ends (k - s.phases)) back

at_ends : (s : Shape) (at : ℕ) → place_at s (ends_start s + at) ≡ from_ends at
at_ends s at =
    let sum : ends_start s + at ≡ split_start s + 1 + (s.phases + at) = omega arith in
    let back : s.phases + at - s.phases ≡ at = omega arith in
    ap (place_at s) sum ∙ at_phases s (s.phases + at) ∙ past s.phases (s.phases + at) (Phase (s.phases + at)) _ (omega arith) ∙ ap from_ends back

-- where nothing stands in front
at_start : (s : Shape) (start : ℕ) (o : Option Place) → place_at s (start + 0) ≡ o → place_at s start ≡ o
at_start s start o e =
    let none : start ≡ start + 0 = omega arith in
    ap (place_at s) none ∙ e

pub lines_are_found : LinesAreFound
unfolding place_at from_edition from_components from_interactions from_roots from_pressure_roots from_split from_ends index_of
lines_are_found s few Version h = refl
lines_are_found s few Temperature h = refl
lines_are_found s few Pressure h = refl
lines_are_found s few Count h = refl
lines_are_found s few Edition h = at_edition s 0 ∙ rw h refl
lines_are_found s few (Component i) h = at_components s i ∙ within s.n i (Component i) _ h
lines_are_found s few (Interaction i j) h =
    let p = pair_back s.n i j few h.0 h.1 in
    at_interactions s (pair_index s.n i j) ∙ within (pairs_of s.n) (pair_index s.n i j) _ _ p.inside ∙ ap (λ (x : ℕ × ℕ). Some (Interaction x.0 x.1)) p.pair
lines_are_found s few RootTwo h = at_start s (roots_start s) (Some RootTwo) (at_roots s 0)
lines_are_found s few LogE h = at_roots s 1
lines_are_found s few (TemperatureRoot i) h = at_temperature_roots s i ∙ within s.n i (TemperatureRoot i) _ h
lines_are_found s few (PressureRoot i j) h =
    let p = pair_back s.n i j few h.0 h.1 in
    at_pressure_roots s (pair_index s.n i j) ∙ within (pairs_of s.n) (pair_index s.n i j) _ _ p.inside ∙ ap (λ (x : ℕ × ℕ). Some (PressureRoot x.0 x.1)) p.pair
lines_are_found s few Split h = at_start s (split_start s) (Some Split) (at_split s 0)
lines_are_found s few (Phase k) h = at_phases s k ∙ within s.phases k (Phase k) _ h
lines_are_found s few Upper h = at_start s (ends_start s) (Some Upper) (at_ends s 0)
lines_are_found s few Plane h = at_ends s 1
lines_are_found s few Low h = at_ends s 2
lines_are_found s few Gap h = at_ends s 3
lines_are_found s few Letters h = at_ends s 4
