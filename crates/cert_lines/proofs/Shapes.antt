-- What is read later leaves the place of each line as it was.
use Rattle.std.proofs.Common.{◌≡◌, ℕ, zero, suc, ◌+◌, ◌-◌, ◌<◌, ◌≤◌, List, [], ◌∷◌, ◌++◌, length, get_or, refl, sym, ap, subst, ◌∙◌, arith, Bool, true, false, if◌then◌else◌, Option, Some, None, inl, inr}
use Rattle.std.specs.Prelude.{◌==◌, nat_lt, ◌⊎◌}
use Rattle.std.proofs.lemmas.Bool.{cases_lt, eqb-true}
use Rattle.std.proofs.lemmas.List.{length-append}
use Rattle.cert_lines.specs.declared.places.Place.{Place}
use Rattle.cert_lines.specs.declared.places.Place.TheVariants.{Version, Temperature, Pressure, Count, Edition, Component, Interaction, RootTwo, LogE, TemperatureRoot, PressureRoot, Split, Phase, Upper, Plane, Low, Gap, Letters}
use Rattle.cert_lines.specs.declared.places.Shape.{Shape}
use Rattle.cert_lines.specs.Places.{pairs_of, pair_at, place_at, from_edition, from_components, from_interactions, from_roots, from_pressure_roots, from_split, from_ends}
use Rattle.cert_lines.specs.Lines.{Said, Fits}
use Rattle.cert_lines.specs.Forms.{is_named, ranges_of}
use Rattle.cert_lines.specs.Heads.{Draft, blank, put, reshaped}
use Rattle.cert_lines.specs.HeadTexts.{Says}
use Rattle.cert_lines.specs.Laws.{FitsAt, LinesFit}
use Rattle.cert_lines.specs.declared.lines.Range.{Range}
use Rattle.cert_lines.proofs.HeadText.{lines_take}
use Rattle.cert_lines.proofs.LineText.{some_is}

-- which way a test went
pub chosen : (b : Bool) (x y : Option Place) (p : Place) → (if b then x else y) ≡ Some p → ((b ≡ true) × (x ≡ Some p)) ⊎ ((b ≡ false) × (y ≡ Some p))
chosen true x y p e = inl (refl, e)
chosen false x y p e = inr (refl, e)

-- ---- the first four lines
-- how far on a line stands: 0 for the first four, 1 up to the split, 2 from there
abbrev part_of : Place → ℕ
part_of Version = 0
part_of Temperature = 0
part_of Pressure = 0
part_of Count = 0
part_of Edition = 1
part_of (Component i) = 1
part_of (Interaction i j) = 1
part_of RootTwo = 1
part_of LogE = 1
part_of (TemperatureRoot i) = 1
part_of (PressureRoot i j) = 1
part_of Split = 2
part_of (Phase k) = 3
part_of Upper = 3
part_of Plane = 3
part_of Low = 3
part_of Gap = 3
part_of Letters = 3

part_is : (q p : Place) (k : ℕ) → Some q ≡ Some p → k ≤ part_of q → k ≤ part_of p
part_is q p k e h = subst (λ (x : Place). k ≤ part_of x) (some_is q p e) h

ends_late : (at : ℕ) (p : Place) → from_ends at ≡ Some p → 3 ≤ part_of p
unfolding from_ends
ends_late at p e = elim (chosen (at == 0) (Some Upper) _ p e) [
  | inl h ↦ part_is Upper p 3 h.1 (omega arith)
  | inr h ↦ elim (chosen (at == 1) (Some Plane) _ p h.1) [
    | inl h ↦ part_is Plane p 3 h.1 (omega arith)
    | inr h ↦ elim (chosen (at == 2) (Some Low) _ p h.1) [
      | inl h ↦ part_is Low p 3 h.1 (omega arith)
      | inr h ↦ elim (chosen (at == 3) (Some Gap) _ p h.1) [
        | inl h ↦ part_is Gap p 3 h.1 (omega arith)
        | inr h ↦ elim (chosen (at == 4) (Some Letters) None p h.1) [
          | inl h ↦ part_is Letters p 3 h.1 (omega arith)
          | inr h ↦ absurd (none p h.1)
        ]
      ]
    ]
  ]
]
  where
    none : (p : Place) → None ≡ Some p → ⊥
    none p e = cc

-- behind the split's line
split_late : (s : Shape) (at : ℕ) (p : Place) → from_split s at ≡ Some p → ((at ≡ 0) × (Split ≡ p)) ⊎ (3 ≤ part_of p)
unfolding from_split
split_late s at p e = elim (chosen (at == 0) (Some Split) _ p e) [
  | inl h ↦ inl (eqb-true at 0 h.0, some_is Split p h.1)
  | inr h ↦ elim (chosen (nat_lt (at - 1) s.phases) (Some (Phase (at - 1))) (from_ends (at - 1 - s.phases)) p h.1) [
    | inl h ↦ inr (part_is (Phase (at - 1)) p 3 h.1 (omega arith))
    | inr h ↦ inr (ends_late (at - 1 - s.phases) p h.1)
  ]
]

from_late : (s : Shape) (at : ℕ) (p : Place) → from_split s at ≡ Some p → 1 ≤ part_of p
from_late s at p e = elim (split_late s at p e) [
  | inl h ↦ subst (λ (x : Place). 1 ≤ part_of x) h.1 (omega arith)
  | inr h ↦ omega (arith, h)
]

pressure_late : (s : Shape) (at : ℕ) (p : Place) → from_pressure_roots s at ≡ Some p → 1 ≤ part_of p
unfolding from_pressure_roots
pressure_late s at p e = elim (chosen (nat_lt at (pairs_of s.n)) (Some (PressureRoot (pair_at s.n at).0 (pair_at s.n at).1)) (from_split s (at - pairs_of s.n)) p e) [
  | inl h ↦ part_is (PressureRoot (pair_at s.n at).0 (pair_at s.n at).1) p 1 h.1 (omega arith)
  | inr h ↦ from_late s (at - pairs_of s.n) p h.1
]

roots_late : (s : Shape) (at : ℕ) (p : Place) → from_roots s at ≡ Some p → 1 ≤ part_of p
unfolding from_roots
roots_late s at p e = elim (chosen (at == 0) (Some RootTwo) _ p e) [
  | inl h ↦ part_is RootTwo p 1 h.1 (omega arith)
  | inr h ↦ elim (chosen (at == 1) (Some LogE) _ p h.1) [
    | inl h ↦ part_is LogE p 1 h.1 (omega arith)
    | inr h ↦ elim (chosen (nat_lt (at - 2) s.n) (Some (TemperatureRoot (at - 2))) (from_pressure_roots s (at - 2 - s.n)) p h.1) [
      | inl h ↦ part_is (TemperatureRoot (at - 2)) p 1 h.1 (omega arith)
      | inr h ↦ pressure_late s (at - 2 - s.n) p h.1
    ]
  ]
]

interactions_late : (s : Shape) (at : ℕ) (p : Place) → from_interactions s at ≡ Some p → 1 ≤ part_of p
unfolding from_interactions
interactions_late s at p e = elim (chosen (nat_lt at (pairs_of s.n)) (Some (Interaction (pair_at s.n at).0 (pair_at s.n at).1)) (from_roots s (at - pairs_of s.n)) p e) [
  | inl h ↦ part_is (Interaction (pair_at s.n at).0 (pair_at s.n at).1) p 1 h.1 (omega arith)
  | inr h ↦ roots_late s (at - pairs_of s.n) p h.1
]

components_late : (s : Shape) (at : ℕ) (p : Place) → from_components s at ≡ Some p → 1 ≤ part_of p
unfolding from_components
components_late s at p e = elim (chosen (nat_lt at s.n) (Some (Component at)) (from_interactions s (at - s.n)) p e) [
  | inl h ↦ part_is (Component at) p 1 h.1 (omega arith)
  | inr h ↦ interactions_late s (at - s.n) p h.1
]

edition_late : (s : Shape) (at : ℕ) (p : Place) → from_edition s at ≡ Some p → 1 ≤ part_of p
unfolding from_edition
edition_late s at p e = elim (chosen (s.version == 2) _ (from_components s at) p e) [
  | inl h ↦ elim (chosen (at == 0) (Some Edition) (from_components s (at - 1)) p h.1) [
    | inl h ↦ part_is Edition p 1 h.1 (omega arith)
    | inr h ↦ components_late s (at - 1) p h.1
  ]
  | inr h ↦ components_late s at p h.1
]

-- a line of the first four stands among the first four
pub early : (s : Shape) (at : ℕ) (p : Place) → place_at s at ≡ Some p → part_of p ≡ 0 → at ≤ 3
unfolding place_at
early s at p e h = elim (chosen (at == 0) (Some Version) _ p e) [
  | inl k ↦ omega (arith, eqb-true at 0 k.0)
  | inr k ↦ elim (chosen (at == 1) (Some Temperature) _ p k.1) [
    | inl k ↦ omega (arith, eqb-true at 1 k.0)
    | inr k ↦ elim (chosen (at == 2) (Some Pressure) _ p k.1) [
      | inl k ↦ omega (arith, eqb-true at 2 k.0)
      | inr k ↦ elim (chosen (at == 3) (Some Count) (from_edition s (at - 4)) p k.1) [
        | inl k ↦ omega (arith, eqb-true at 3 k.0)
        | inr k ↦ absurd (omega (arith, h, edition_late s (at - 4) p k.1))
      ]
    ]
  ]
]

front_same : (s s' : Shape) (i : ℕ) → i ≤ 3 → place_at s' i ≡ place_at s i
unfolding place_at
front_same s s' zero h = refl
front_same s s' (suc zero) h = refl
front_same s s' (suc (suc zero)) h = refl
front_same s s' (suc (suc (suc zero))) h = refl
front_same s s' (suc (suc (suc (suc i)))) h = absurd (omega arith)

front_part : (s : Shape) (i : ℕ) (p : Place) → i ≤ 3 → place_at s i ≡ Some p → part_of p ≡ 0
unfolding place_at
front_part s zero p h e = sym (ap part_of (some_is Version p e))
front_part s (suc zero) p h e = sym (ap part_of (some_is Temperature p e))
front_part s (suc (suc zero)) p h e = sym (ap part_of (some_is Pressure p e))
front_part s (suc (suc (suc zero))) p h e = sym (ap part_of (some_is Count p e))
front_part s (suc (suc (suc (suc i)))) p h e = absurd (omega arith)

-- ---- the number of phases moves no line up to the split's
abbrev with_phases : Shape → ℕ → Shape
with_phases s x = record s { phases = x }

split_same : (s : Shape) (x i k : ℕ) → i ≤ k → from_split s k ≡ Some Split → from_split (with_phases s x) i ≡ from_split s i
unfolding from_split
split_same s x i k h e = elim (split_late s k Split e) [
  | inl f ↦
      let none : i ≡ 0 = omega (arith, h, f.0) in
      rw none refl
  | inr f ↦ absurd (omega (arith, f))
]

pressure_same : (s : Shape) (x i k : ℕ) → i ≤ k → from_pressure_roots s k ≡ Some Split → from_pressure_roots (with_phases s x) i ≡ from_pressure_roots s i
unfolding from_pressure_roots
pressure_same s x i k h e = elim (chosen (nat_lt k (pairs_of s.n)) (Some (PressureRoot (pair_at s.n k).0 (pair_at s.n k).1)) (from_split s (k - pairs_of s.n)) Split e) [
  | inl f ↦ absurd (omega (arith, part_is (PressureRoot (pair_at s.n k).0 (pair_at s.n k).1) Split 1 f.1 (omega arith), wrong (PressureRoot (pair_at s.n k).0 (pair_at s.n k).1) f.1))
  | inr f ↦ by_test (nat_lt i (pairs_of s.n)) (split_same s x (i - pairs_of s.n) (k - pairs_of s.n) (omega (arith, h)) f.1)
]
  where
    wrong : (q : Place) → Some q ≡ Some Split → part_of q ≡ 2
    wrong q e = ap part_of (some_is q Split e)

    by_test : (b : Bool) → from_split (with_phases s x) (i - pairs_of s.n) ≡ from_split s (i - pairs_of s.n)
        → (if b then Some (PressureRoot (pair_at s.n i).0 (pair_at s.n i).1) else from_split (with_phases s x) (i - pairs_of s.n))
        ≡ (if b then Some (PressureRoot (pair_at s.n i).0 (pair_at s.n i).1) else from_split s (i - pairs_of s.n))
    by_test true f = refl
    by_test false f = f

-- one section in front of what is the same
behind : (bound i k : ℕ) (first : ℕ → Place) (f g : ℕ → Option Place) → i ≤ k → ((j : ℕ) → part_of (first j) ≡ 1)
    → ((j l : ℕ) → j ≤ l → f l ≡ Some Split → g j ≡ f j)
    → (if nat_lt k bound then Some (first k) else f (k - bound)) ≡ Some Split
    → (if nat_lt i bound then Some (first i) else g (i - bound)) ≡ (if nat_lt i bound then Some (first i) else f (i - bound))
behind bound i k first f g h one same e = elim (chosen (nat_lt k bound) (Some (first k)) (f (k - bound)) Split e) [
  | inl t ↦ absurd (omega (arith, one k, ap part_of (some_is (first k) Split t.1)))
  | inr t ↦ by_test (nat_lt i bound) (same (i - bound) (k - bound) (omega (arith, h)) t.1)
]
  where
    by_test : (b : Bool) → g (i - bound) ≡ f (i - bound) → (if b then Some (first i) else g (i - bound)) ≡ (if b then Some (first i) else f (i - bound))
    by_test true t = refl
    by_test false t = t

under : (b : Bool) (x y z : Option Place) → y ≡ z → (if b then x else y) ≡ (if b then x else z)
under true x y z e = refl
under false x y z e = e

-- where the first of two is another place, it is the second
second : (b : Bool) (q : Place) (y : Option Place) → (part_of q ≡ 2 → ⊥) → (if b then Some q else y) ≡ Some Split → y ≡ Some Split
second true q y other e = absurd (other (ap part_of (some_is q Split e)))
second false q y other e = e

roots_same : (s : Shape) (x i k : ℕ) → i ≤ k → from_roots s k ≡ Some Split → from_roots (with_phases s x) i ≡ from_roots s i
unfolding from_roots
roots_same s x i k h e =
    let second_of : (if k == 1 then Some LogE else (if nat_lt (k - 2) s.n then Some (TemperatureRoot (k - 2)) else from_pressure_roots s (k - 2 - s.n))) ≡ Some Split =
    second (k == 0) RootTwo _ (λ n. omega (arith, n)) e in
    let third : (if nat_lt (k - 2) s.n then Some (TemperatureRoot (k - 2)) else from_pressure_roots s (k - 2 - s.n)) ≡ Some Split =
    second (k == 1) LogE _ (λ n. omega (arith, n)) second_of in
    under (i == 0) (Some RootTwo) _ _ (under (i == 1) (Some LogE) _ _
    (behind s.n (i - 2) (k - 2) (λ j. TemperatureRoot j) (from_pressure_roots s) (from_pressure_roots (with_phases s x)) (omega (arith, h)) (λ j. refl) (λ j l m n. pressure_same s x j l m n) third))

interactions_same : (s : Shape) (x i k : ℕ) → i ≤ k → from_interactions s k ≡ Some Split → from_interactions (with_phases s x) i ≡ from_interactions s i
unfolding from_interactions
interactions_same s x i k h e =
    behind (pairs_of s.n) i k (λ j. Interaction (pair_at s.n j).0 (pair_at s.n j).1) (from_roots s) (from_roots (with_phases s x)) h (λ j. refl) (λ j l m n. roots_same s x j l m n) e

components_same : (s : Shape) (x i k : ℕ) → i ≤ k → from_components s k ≡ Some Split → from_components (with_phases s x) i ≡ from_components s i
unfolding from_components
components_same s x i k h e =
    behind s.n i k (λ j. Component j) (from_interactions s) (from_interactions (with_phases s x)) h (λ j. refl) (λ j l m n. interactions_same s x j l m n) e

edition_same : (s : Shape) (x i k : ℕ) → i ≤ k → from_edition s k ≡ Some Split → from_edition (with_phases s x) i ≡ from_edition s i
unfolding from_edition
edition_same s x i k h e = by_version (s.version == 2) e
  where
    by_first : (b c : Bool) → (b ≡ true → i ≡ 0) → from_components s (k - 1) ≡ Some Split
        → (if b then Some Edition else from_components (with_phases s x) (i - 1)) ≡ (if b then Some Edition else from_components s (i - 1))
    by_first true c z e = refl
    by_first false c z e = components_same s x (i - 1) (k - 1) (omega (arith, h)) e

    by_version : (b : Bool) → (if b then (if k == 0 then Some Edition else from_components s (k - 1)) else from_components s k) ≡ Some Split
        → (if b then (if i == 0 then Some Edition else from_components (with_phases s x) (i - 1)) else from_components (with_phases s x) i)
        ≡ (if b then (if i == 0 then Some Edition else from_components s (i - 1)) else from_components s i)
    by_version false e = components_same s x i k h e
    by_version true e = elim (chosen (k == 0) (Some Edition) (from_components s (k - 1)) Split e) [
      | inl t ↦ absurd (omega (arith, ap part_of (some_is Edition Split t.1)))
      | inr t ↦ by_first (i == 0) true (λ u. eqb-true i 0 u) t.1
    ]

place_same : (s : Shape) (x i k : ℕ) → i ≤ k → place_at s k ≡ Some Split → place_at (with_phases s x) i ≡ place_at s i
unfolding place_at
place_same s x i k h e =
    let a : (if k == 1 then Some Temperature else (if k == 2 then Some Pressure else (if k == 3 then Some Count else from_edition s (k - 4)))) ≡ Some Split =
    second (k == 0) Version _ (λ n. omega (arith, n)) e in
    let b : (if k == 2 then Some Pressure else (if k == 3 then Some Count else from_edition s (k - 4))) ≡ Some Split = second (k == 1) Temperature _ (λ n. omega (arith, n)) a in
    let c : (if k == 3 then Some Count else from_edition s (k - 4)) ≡ Some Split = second (k == 2) Pressure _ (λ n. omega (arith, n)) b in
    let d : from_edition s (k - 4) ≡ Some Split = second (k == 3) Count _ (λ n. omega (arith, n)) c in
    under (i == 0) (Some Version) _ _ (under (i == 1) (Some Temperature) _ _ (under (i == 2) (Some Pressure) _ _ (under (i == 3) (Some Count) _ _
    (edition_same s x (i - 4) (k - 4) (omega (arith, h)) d))))

-- ---- a line that is read
-- no line up to the k-th moves, and the number of components stays from the fifth on
pub record IsKept (k : ℕ) (s after : Shape) : Type 0 where
  pub places : (i : ℕ) → i ≤ k → place_at after i ≡ place_at s i
  pub count : 4 ≤ k → after.n ≡ s.n

same : (k : ℕ) (s : Shape) → IsKept k s s
same k s = record { places = λ i h. refl; count = λ h. refl }

kept : (k : ℕ) (s : Shape) (p : Place) (x : Said) → place_at s k ≡ Some p → IsKept k s (reshaped s p x)
unfolding place_at from_edition from_components from_interactions from_roots from_pressure_roots from_split
kept k s Version x e =
    let few : k ≤ 3 = early s k Version e refl in
    record { places = λ i h. front_same s (reshaped s Version x) i (omega (arith, h, few)); count = λ h. absurd (omega (arith, h, few)) }
kept k s Count x e =
    let few : k ≤ 3 = early s k Count e refl in
    record { places = λ i h. front_same s (reshaped s Count x) i (omega (arith, h, few)); count = λ h. absurd (omega (arith, h, few)) }
kept k s Split x e = record { places = λ i h. place_same s (reshaped s Split x).phases i k h e; count = λ h. refl }
kept k s Letters x e = record { places = λ i h. refl; count = λ h. refl }
kept k s Temperature x e = same k s
kept k s Pressure x e = same k s
kept k s Edition x e = same k s
kept k s (Component i) x e = same k s
kept k s (Interaction i j) x e = same k s
kept k s RootTwo x e = same k s
kept k s LogE x e = same k s
kept k s (TemperatureRoot i) x e = same k s
kept k s (PressureRoot i j) x e = same k s
kept k s (Phase i) x e = same k s
kept k s Upper x e = same k s
kept k s Plane x e = same k s
kept k s Low x e = same k s
kept k s Gap x e = same k s

then_kept : (k l : ℕ) (s t u : Shape) → k ≤ l → IsKept k s t → IsKept l t u → IsKept k s u
then_kept k l s t u h f g = record {
  places = λ i m. g.places i (omega (arith, m, h)) ∙ f.places i m;
  count = λ m. g.count (omega (arith, m, h)) ∙ f.count m;
}

-- from a draft to what it becomes
pub shape_kept : (d after : Draft) (said : List Said) (lines : List (List ℕ)) → Says d said lines after → IsKept (length d.said) d.shape after.shape
unfolding Says
shape_kept d after [] lines f = subst (λ (x : Draft). IsKept (length d.said) d.shape x.shape) (sym f.1) (same (length d.said) d.shape)
shape_kept d after (s ∷ said) lines f =
    let one = kept (length d.said) d.shape f.0 s f.2.next in
    let rest = shape_kept (put d f.0 s) after said f.1 f.4 in
    then_kept (length d.said) (length (d.said ++ s ∷ [])) d.shape (reshaped d.shape f.0 s) after.shape (omega (arith, length-append d.said (s ∷ []))) one rest

-- the numbers of the first four lines don't depend on the number of components
front_ranges : (n m : ℕ) (p : Place) → part_of p ≡ 0 → ranges_of n p ≡ ranges_of m p
front_ranges n m Version h = refl
front_ranges n m Temperature h = refl
front_ranges n m Pressure h = refl
front_ranges n m Count h = refl
front_ranges n m Edition h = refl
front_ranges n m (Component i) h = refl
front_ranges n m (Interaction i j) h = refl
front_ranges n m RootTwo h = refl
front_ranges n m LogE h = refl
front_ranges n m (TemperatureRoot i) h = refl
front_ranges n m (PressureRoot i j) h = refl
front_ranges n m Split h = refl
front_ranges n m (Phase k) h = absurd (omega (arith, h))
front_ranges n m Upper h = refl
front_ranges n m Plane h = absurd (omega (arith, h))
front_ranges n m Low h = refl
front_ranges n m Gap h = refl
front_ranges n m Letters h = refl

same_ranges : (s after : Shape) (k : ℕ) (p : Place) → place_at s k ≡ Some p → IsKept k s after → ranges_of s.n p ≡ ranges_of after.n p
same_ranges s after k p e f = elim (cases_lt k 4) [
  | inl h ↦ front_ranges s.n after.n p (front_part s k p (omega arith) e)
  | inr h ↦ ap (λ (n : ℕ). ranges_of n p) (sym (f.count h))
]

abbrev nothing : Said
nothing = record { name = []; numbers = [] }

fit : (d after : Draft) (said : List Said) (lines : List (List ℕ)) → Says d said lines after → (i : ℕ) → i < length said → FitsAt after (length d.said + i) (get_or said i nothing)
unfolding Says
fit d after [] lines f i h = absurd (omega (arith, h))
fit d after (s ∷ said) lines f zero h =
    let k = shape_kept d after (s ∷ said) lines f in
    let first : length d.said + 0 ≡ length d.said = omega arith in
    subst (λ (n : ℕ). FitsAt after n s) (sym first) (record {
      place = f.0;
      stands = k.places (length d.said) (omega arith) ∙ f.2.next;
      fits = subst (λ (rs : List Range). Fits (is_named f.0) rs s) (same_ranges d.shape after.shape (length d.said) f.0 f.2.next k) f.2.fits;
    })
fit d after (s ∷ said) lines f (suc i) h =
    let r = fit (put d f.0 s) after said f.1 f.4 i (omega (arith, h)) in
    let at : length (d.said ++ s ∷ []) + i ≡ length d.said + suc i = omega (arith, length-append d.said (s ∷ [])) in
    subst (λ (n : ℕ). FitsAt after n (get_or said i nothing)) at r

pub lines_fit : LinesFit
lines_fit d lines e i h =
    let t = lines_take blank d lines e in
    let all : d.said ≡ t.0 = t.2 in
    let r = fit blank d t.0 lines t.1 i (subst (λ (l : List Said). i < length l) all h) in
    let at : 0 + i ≡ i = omega arith in
    subst (λ (l : List Said). FitsAt d i (get_or l i nothing)) (sym all) (subst (λ (n : ℕ). FitsAt d n (get_or t.0 i nothing)) at r)
