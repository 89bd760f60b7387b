-- The line at an index is that of the list.
use Rattle.std.proofs.Common.{◌≡◌, ℕ, zero, suc, ◌-◌, ◌<◌, ◌≤◌, List, [], ◌∷◌, ◌++◌, length, map, refl, sym, ap, ◌∙◌, arith, Bool, true, false, if◌then◌else◌, Option, Some, None}
use Rattle.std.specs.Prelude.{◌==◌, nat_lt}
use Rattle.std.specs.List.{range_with_len, slice_get}
use Rattle.std.proofs.lemmas.Bool.{eqb-true, ltb-true, ltb-false}
use Rattle.std.proofs.lemmas.Option.{slice_get-get_or}
use Rattle.std.proofs.lemmas.List.FromFn.{length-map-range_with_len, get_or-map-range_with_len}
use Rattle.cert_lines.specs.declared.places.Place.{Place}
use Rattle.cert_lines.specs.declared.places.Place.TheVariants.{Version, Temperature, Pressure, Count, Edition, Component, Interaction, RootTwo, LogE, TemperatureRoot, PressureRoot, Split, Phase, Upper, Plane, Low, Gap, Letters}
use Rattle.cert_lines.specs.declared.places.Shape.{Shape}
use Rattle.cert_lines.specs.Places.{pairs, places, PlacesStand, pairs_of, pair_at, place_at, from_edition, from_components, from_interactions, from_roots, from_pressure_roots, from_split, from_ends}

-- ---- a list in front of another
-- not this line
other : (k at : ℕ) (first : Place) (o : Option Place) → (at ≡ k → ⊥) → (if at == k then Some first else o) ≡ o
other k at first o differs = by_test (at == k) refl
  where
    by_test : (b : Bool) → (at == k) ≡ b → (if b then Some first else o) ≡ o
    by_test true h = absurd (differs (eqb-true at k h))
    by_test false h = refl

-- one line
one : (first : Place) (others : List Place) (at : ℕ) (o : Option Place) → o ≡ slice_get others (at - 1)
    → (if at == 0 then Some first else o) ≡ slice_get (first ∷ others) at
one first others zero o e = refl
one first others (suc at) o e =
    let back : suc at - 1 ≡ at = omega arith in
    other 0 (suc at) first o (λ h. omega (arith, h)) ∙ e ∙ ap (slice_get others) back

-- some lines
before : (front others : List Place) (at : ℕ) → at < length front → slice_get (front ++ others) at ≡ slice_get front at
before [] others at h = absurd (omega (arith, h))
before (x ∷ front) others zero h = refl
before (x ∷ front) others (suc at) h = before front others at (omega (arith, h))

behind : (front others : List Place) (at : ℕ) → length front ≤ at → slice_get (front ++ others) at ≡ slice_get others (at - length front)
behind [] others at h =
    let same : at - 0 ≡ at = omega arith in
    rw same refl
behind (x ∷ front) others zero h = absurd (omega (arith, h))
behind (x ∷ front) others (suc at) h =
    let same : suc at - suc (length front) ≡ at - length front = omega arith in
    behind front others at (omega (arith, h)) ∙ ap (slice_get others) (sym same)

section : (n at : ℕ) (front others : List Place) (first : Place) (o : Option Place) → length front ≡ n → (at < n → slice_get front at ≡ Some first)
    → o ≡ slice_get others (at - n) → (if nat_lt at n then Some first else o) ≡ slice_get (front ++ others) at
section n at front others first o len here e = by_test (nat_lt at n) refl
  where
    by_test : (b : Bool) → nat_lt at n ≡ b → (if b then Some first else o) ≡ slice_get (front ++ others) at
    by_test true h =
        let k = ltb-true at n h in
        sym (before front others at (omega (arith, len, k)) ∙ here k)
    by_test false h =
        let k = ltb-false at n h in
        e ∙ sym (behind front others at (omega (arith, len, k)) ∙ ap (λ (m : ℕ). slice_get others (at - m)) len)

-- numbered lines
numbered : (f : ℕ → Place) (n at : ℕ) → at < n → slice_get (map f (range_with_len 0 n)) at ≡ Some (f at)
numbered f n at h =
    slice_get-get_or (map f (range_with_len 0 n)) at (f 0) (omega (arith, length-map-range_with_len f 0 n, h))
    ∙ ap Some (get_or-map-range_with_len f 0 n at at (f 0) h (omega arith))

-- ---- pairs
pair_lines : (f : ℕ × ℕ → Place) (n : ℕ) → n ≤ 4 → length (map f (pairs n)) ≡ pairs_of n
pair_lines f zero h = refl
pair_lines f (suc zero) h = refl
pair_lines f (suc (suc zero)) h = refl
pair_lines f (suc (suc (suc zero))) h = refl
pair_lines f (suc (suc (suc (suc zero)))) h = refl
pair_lines f (suc (suc (suc (suc (suc n))))) h = absurd (omega (arith, h))

pair_line : (f : ℕ × ℕ → Place) (n at : ℕ) → n ≤ 4 → at < pairs_of n → slice_get (map f (pairs n)) at ≡ Some (f (pair_at n at))
pair_line f zero at few h = absurd (omega (arith, h))
pair_line f (suc zero) at few h = absurd (omega (arith, h))
pair_line f (suc (suc zero)) zero few h = refl
pair_line f (suc (suc zero)) (suc at) few h = absurd (omega (arith, h))
pair_line f (suc (suc (suc zero))) zero few h = refl
pair_line f (suc (suc (suc zero))) (suc zero) few h = refl
pair_line f (suc (suc (suc zero))) (suc (suc zero)) few h = refl
pair_line f (suc (suc (suc zero))) (suc (suc (suc at))) few h = absurd (omega (arith, h))
pair_line f (suc (suc (suc (suc zero)))) zero few h = refl
pair_line f (suc (suc (suc (suc zero)))) (suc zero) few h = refl
pair_line f (suc (suc (suc (suc zero)))) (suc (suc zero)) few h = refl
pair_line f (suc (suc (suc (suc zero)))) (suc (suc (suc zero))) few h = refl
pair_line f (suc (suc (suc (suc zero)))) (suc (suc (suc (suc zero)))) few h = refl
pair_line f (suc (suc (suc (suc zero)))) (suc (suc (suc (suc (suc zero))))) few h = refl
pair_line f (suc (suc (suc (suc zero)))) (suc (suc (suc (suc (suc (suc at)))))) few h = absurd (omega (arith, h))
pair_line f (suc (suc (suc (suc (suc n))))) at few h = absurd (omega (arith, few))

-- ---- the sections
from_ends_is : (at : ℕ) → from_ends at ≡ slice_get (Upper ∷ Plane ∷ Low ∷ Gap ∷ Letters ∷ []) at
unfolding from_ends
from_ends_is zero = refl
from_ends_is (suc zero) = refl
from_ends_is (suc (suc zero)) = refl
from_ends_is (suc (suc (suc zero))) = refl
from_ends_is (suc (suc (suc (suc zero)))) = refl
from_ends_is (suc (suc (suc (suc (suc at))))) =
    let past : ℕ = suc (suc (suc (suc (suc at)))) in
    other 0 past Upper _ (λ h. omega (arith, h)) ∙ other 1 past Plane _ (λ h. omega (arith, h)) ∙ other 2 past Low _ (λ h. omega (arith, h))
    ∙ other 3 past Gap _ (λ h. omega (arith, h)) ∙ other 4 past Letters None (λ h. omega (arith, h))

from_split_is : (s : Shape) (at : ℕ)
    → from_split s at ≡ slice_get (Split ∷ (map Phase (range_with_len 0 s.phases) ++ (Upper ∷ Plane ∷ Low ∷ Gap ∷ Letters ∷ []))) at
unfolding from_split
from_split_is s at =
    one Split _ at _ (section s.phases (at - 1) (map Phase (range_with_len 0 s.phases)) _ (Phase (at - 1)) _ (length-map-range_with_len Phase 0 s.phases)
    (numbered Phase s.phases (at - 1)) (from_ends_is (at - 1 - s.phases)))

-- the lines from the pressure roots on
abbrev behind_roots : Shape → List Place
behind_roots s =
    map (λ p. PressureRoot p.0 p.1) (pairs s.n) ++ (Split ∷ (map Phase (range_with_len 0 s.phases) ++ (Upper ∷ Plane ∷ Low ∷ Gap ∷ Letters ∷ [])))

from_pressure_roots_is : (s : Shape) → s.n ≤ 4 → (at : ℕ) → from_pressure_roots s at ≡ slice_get (behind_roots s) at
unfolding from_pressure_roots
from_pressure_roots_is s few at =
    section (pairs_of s.n) at (map (λ p. PressureRoot p.0 p.1) (pairs s.n)) _ (PressureRoot (pair_at s.n at).0 (pair_at s.n at).1) _
    (pair_lines (λ p. PressureRoot p.0 p.1) s.n few) (pair_line (λ p. PressureRoot p.0 p.1) s.n at few) (from_split_is s (at - pairs_of s.n))

from_roots_is : (s : Shape) → s.n ≤ 4 → (at : ℕ) → from_roots s at ≡ slice_get (RootTwo ∷ LogE ∷ (map TemperatureRoot (range_with_len 0 s.n) ++ behind_roots s)) at
unfolding from_roots
from_roots_is s few zero = refl
from_roots_is s few (suc zero) = refl
from_roots_is s few (suc (suc at)) =
    let back : suc (suc at) - 2 ≡ at = omega arith in
    other 0 (suc (suc at)) RootTwo _ (λ h. omega (arith, h)) ∙ other 1 (suc (suc at)) LogE _ (λ h. omega (arith, h))
    ∙ rw back (section s.n at (map TemperatureRoot (range_with_len 0 s.n)) _ (TemperatureRoot at) _ (length-map-range_with_len TemperatureRoot 0 s.n)
    (numbered TemperatureRoot s.n at) (from_pressure_roots_is s few (at - s.n)))

-- the lines from the interactions on
abbrev behind_components : Shape → List Place
behind_components s =
    map (λ p. Interaction p.0 p.1) (pairs s.n) ++ (RootTwo ∷ LogE ∷ (map TemperatureRoot (range_with_len 0 s.n) ++ behind_roots s))

from_interactions_is : (s : Shape) → s.n ≤ 4 → (at : ℕ) → from_interactions s at ≡ slice_get (behind_components s) at
unfolding from_interactions
from_interactions_is s few at =
    section (pairs_of s.n) at (map (λ p. Interaction p.0 p.1) (pairs s.n)) _ (Interaction (pair_at s.n at).0 (pair_at s.n at).1) _
    (pair_lines (λ p. Interaction p.0 p.1) s.n few) (pair_line (λ p. Interaction p.0 p.1) s.n at few) (from_roots_is s few (at - pairs_of s.n))

from_components_is : (s : Shape) → s.n ≤ 4 → (at : ℕ) → from_components s at ≡ slice_get (map Component (range_with_len 0 s.n) ++ behind_components s) at
unfolding from_components
from_components_is s few at =
    section s.n at (map Component (range_with_len 0 s.n)) _ (Component at) _ (length-map-range_with_len Component 0 s.n)
    (numbered Component s.n at) (from_interactions_is s few (at - s.n))

from_edition_is : (s : Shape) → s.n ≤ 4 → (at : ℕ)
    → from_edition s at ≡ slice_get ((if s.version == 2 then Edition ∷ [] else []) ++ (map Component (range_with_len 0 s.n) ++ behind_components s)) at
unfolding from_edition
from_edition_is s few at = by_test (s.version == 2)
  where
    by_test : (b : Bool) → (if b then (if at == 0 then Some Edition else from_components s (at - 1)) else from_components s at)
        ≡ slice_get ((if b then Edition ∷ [] else []) ++ (map Component (range_with_len 0 s.n) ++ behind_components s)) at
    by_test true = one Edition _ at _ (from_components_is s few (at - 1))
    by_test false = from_components_is s few at

pub places_stand : PlacesStand
unfolding place_at places
places_stand s few zero = refl
places_stand s few (suc zero) = refl
places_stand s few (suc (suc zero)) = refl
places_stand s few (suc (suc (suc zero))) = refl
places_stand s few (suc (suc (suc (suc at)))) =
    let back : suc (suc (suc (suc at))) - 4 ≡ at = omega arith in
    let past : ℕ = suc (suc (suc (suc at))) in
    other 0 past Version _ (λ h. omega (arith, h)) ∙ other 1 past Temperature _ (λ h. omega (arith, h)) ∙ other 2 past Pressure _ (λ h. omega (arith, h))
    ∙ other 3 past Count _ (λ h. omega (arith, h)) ∙ rw back (from_edition_is s few at)
