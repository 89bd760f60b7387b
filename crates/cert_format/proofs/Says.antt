-- A head that is made of the lines of a whole draft says what they say.
use Rattle.std.proofs.Common.{◌≡◌, ◌<◌, ◌≤◌, ◌+◌, ◌-◌, ◌^◌, ◌∙◌, ℕ, zero, suc, ℤ, pos, neg_ℤ, List, [], ◌∷◌, length, get_or, map, take, ap, sym, refl, subst, arith, Bool, true, false}
use Rattle.std.specs.Prelude.{◌≤ℤ◌, if◌then◌else◌, ◌==◌, ◌&&◌, not, int_le, nat_lt, slice_index_or}
use Rattle.std.proofs.lemmas.Bool.{eqb-true, eqb-false, eq-eqb, lt-ltb}
use Rattle.std.proofs.lemmas.List.{take-map, get_or-map, get_or-take}
use Rattle.std.proofs.lemmas.List.FromFn.{length-map-range_with_len, get_or-map-range_with_len}
use Rattle.log_laws.specs.Between.{Ends}
use Rattle.log_laws.specs.Interval.{ends, ends_of}
use Rattle.case_types.specs.Arithmetic.Tables.{ends_at, no_ends}
use Rattle.case_types.specs.Energy.Instances.{pair_place}
use Rattle.case_types.specs.Ranges.{entry}
use Rattle.case_types.specs.declared.cases.Edition.{Edition}
use Rattle.case_types.specs.declared.cases.Edition.TheVariants.{Y1976, Y1978}
use Rattle.case_types.specs.declared.phases.Phase.{Phase}
use Rattle.cert_lines.specs.declared.lines.Range.{Range}
use Rattle.cert_lines.specs.declared.places.Place.{Place}
use Rattle.cert_lines.specs.declared.places.Place.TheVariants.{Version, Temperature, Pressure, Count, Edition as EditionLine, Component, Interaction, RootTwo, LogE, TemperatureRoot, PressureRoot, Split, Phase as PhaseLine, Upper, Plane, Low, Gap, Letters}
use Rattle.cert_lines.specs.Lines.{Said, IsIn, Fits}
use Rattle.cert_lines.specs.Forms.{between, only, end, energy}
use Rattle.cert_lines.specs.Heads.{Draft, number_in, up_to, count_of, letters_of}
use Rattle.cert_lines.specs.Indices.{HasLine, said_on, number_on}
use Rattle.cert_lines.proofs.Exports.{int_le_out}
use Rattle.cert_format.specs.declared.heads.Head.{Head}
use Rattle.cert_format.specs.Heads.{saying, ends_said, component_said, phase_said, edition_number, says}
use Rattle.cert_format.specs.Building.{IsWhole, IsCaseOf, four, six_pairs, natural, held, bounded, end_limit, ends_on, temperature_root_on, pressure_root_on, name_on, temperature_on, pressure_on, factor_on, feed_on, pair_on, interaction_on, edition_on, packing_on, part_on, phase_on, phases_on, energy_on, potential_on}
use Rattle.cert_format.proofs.Held.{held_is, natural_is, up_to_is}
use Rattle.cert_format.proofs.Live.{of_live}
use Rattle.cert_format.proofs.Whole.{is_line, is_counted, are_one, are_two, are_three, are_four, is_in_range, number_count}
use Rattle.cert_format.proofs.CaseFacts.{four_at, feed_number}
use Rattle.cert_format.proofs.SplitFacts.{firsts, phase_count, phase_packing, phase_part}

-- the parts of a head, as the lines have them
pub record IsMadeOf (d : Draft) (h : Head) : Type 0 where
  pub version : h.version ≡ d.shape.version
  pub is_case : IsCaseOf d h.params.case
  pub two : ends_of h.params.two ≡ ends_on d RootTwo 0
  pub e : ends_of h.params.e ≡ ends_on d LogE 0
  pub temperature_roots : map ends_of h.params.t ≡ four (temperature_root_on d)
  pub pressure_roots : map ends_of h.params.q ≡ six_pairs (pressure_root_on d)
  pub sum : h.split.sum ≡ natural 1 (2 ^ 104 - 1) (number_on d Split 1)
  pub phases : h.split.phases.items ≡ phases_on d
  pub u : h.u ≡ energy_on d Upper 0
  pub plane : h.plane.lam ≡ four (potential_on d)
  pub low : h.low ≡ energy_on d Low 0
  pub gap : h.gap ≡ energy_on d Gap 0
  pub letters : h.letters ≡ letters_of d

-- ---- a line
said_is : (s : Said) (zs : List ℤ) → s.name ≡ [] → zs ≡ s.numbers → saying zs ≡ s
said_is s zs e f =
    ap (λ (xs : List ℤ). saying xs) f ∙ sym (ap (λ (name : List ℕ). the_said name s.numbers) e)
  where
    the_said : List ℕ → List ℤ → Said
    the_said name numbers = record { name = name; numbers = numbers }

-- of one number, in a range
one_said : (s : Said) (r : Range) (z : ℤ) → Fits false (r ∷ []) s → (IsIn r (number_in s 0) → z ≡ number_in s 0) → saying (z ∷ []) ≡ s
one_said s r z fits h =
    let k = are_one r s.numbers fits.numbers in
    said_is s (z ∷ []) fits.name (ap (λ (x : ℤ). x ∷ []) (h k.first) ∙ sym k.all)

-- a component's number
only_is : (i : ℕ) (z : ℤ) → IsIn (only i) z → pos (i + 1) ≡ z
only_is i z h = grind (arith, h.low, h.high)

-- ---- pairs of ends
ends_same : (d : Draft) (here : Place) (k : ℕ) → IsIn end (number_on d here k) → IsIn end (number_on d here (k + 1)) → int_le (number_on d here k) (number_on d here (k + 1)) ≡ true
    → ends_on d here k ≡ ends (number_on d here k) (number_on d here (k + 1))
ends_same d here k a b order =
    let lo : bounded end_limit (number_on d here k) ≡ number_on d here k = held_is (neg_ℤ (pos end_limit)) (pos end_limit) (number_on d here k) a.low a.high in
    let hi : held (number_on d here k) (pos end_limit) (number_on d here (k + 1)) ≡ number_on d here (k + 1) =
    held_is (number_on d here k) (pos end_limit) (number_on d here (k + 1)) (int_le_out (number_on d here k) (number_on d here (k + 1)) order) b.high in
    rw (lo, hi) refl

six_at : (f : ℕ → ℕ → Ends) (i j : ℕ) → i < j → j < 4 → ends_at (six_pairs f) (pair_place i j) ≡ f i j
six_at f i zero h k = absurd (omega (arith, h))
six_at f zero (suc zero) h k = refl
six_at f (suc i) (suc zero) h k = absurd (omega (arith, h))
six_at f zero (suc (suc zero)) h k = refl
six_at f (suc zero) (suc (suc zero)) h k = refl
six_at f (suc (suc i)) (suc (suc zero)) h k = absurd (omega (arith, h))
six_at f zero (suc (suc (suc zero))) h k = refl
six_at f (suc zero) (suc (suc (suc zero))) h k = refl
six_at f (suc (suc zero)) (suc (suc (suc zero))) h k = refl
six_at f (suc (suc (suc i))) (suc (suc (suc zero))) h k = absurd (omega (arith, h))
six_at f i (suc (suc (suc (suc j)))) h k = absurd (omega (arith, k))

two_ends : (d : Draft) (w : IsWhole d) (here : Place) (v : Ends) → v ≡ ends_on d here 0 → Fits false (end ∷ end ∷ []) (said_on d here) → int_le (number_on d here 0) (number_on d here 1) ≡ true
    → ends_said [] v ≡ said_on d here
two_ends d w here v is fits order =
    let k = are_two end end (said_on d here).numbers fits.numbers in
    said_is (said_on d here) (v.lo ∷ v.hi ∷ []) fits.name
    (ap (λ (x : Ends). x.lo ∷ x.hi ∷ []) (is ∙ ends_same d here 0 k.first k.second order) ∙ sym k.all)

temperature_root : (d : Draft) (w : IsWhole d) (h : Head) → IsMadeOf d h → (i : ℕ) → i < d.shape.n → says h (TemperatureRoot i) ≡ said_on d (TemperatureRoot i)
unfolding says
temperature_root d w h m i l =
    let c = is_counted d w in
    let here = is_line d w (TemperatureRoot i) l in
    let s : Said = said_on d (TemperatureRoot i) in
    let k = are_three (only i) end end s.numbers here.fits.numbers in
    let v : Ends = ends_at (map ends_of h.params.t) i in
    let is : v ≡ ends (number_in s 1) (number_in s 2) =
    ap (λ (vs : List Ends). ends_at vs i) m.temperature_roots ∙ four_at (temperature_root_on d) i no_ends (omega (arith, l, c.few))
    ∙ of_live d i (ends_on d (TemperatureRoot i) 1) no_ends (omega (arith, l, c.counted)) ∙ ends_same d (TemperatureRoot i) 1 k.second k.third here.suited.suits in
    said_is s (pos (i + 1) ∷ v.lo ∷ v.hi ∷ []) here.fits.name
    (ap (λ (z : ℤ). z ∷ v.lo ∷ v.hi ∷ []) (only_is i (number_in s 0) k.first) ∙ ap (λ (x : Ends). number_in s 0 ∷ x.lo ∷ x.hi ∷ []) is ∙ sym k.all)

pressure_root : (d : Draft) (w : IsWhole d) (h : Head) → IsMadeOf d h → (i j : ℕ) → i < j → j < d.shape.n → says h (PressureRoot i j) ≡ said_on d (PressureRoot i j)
unfolding says
pressure_root d w h m i j g l =
    let c = is_counted d w in
    let here = is_line d w (PressureRoot i j) (g, l) in
    let s : Said = said_on d (PressureRoot i j) in
    let k = are_four (only i) (only j) end end s.numbers here.fits.numbers in
    let v : Ends = ends_at (map ends_of h.params.q) (pair_place i j) in
    let is : v ≡ ends (number_in s 2) (number_in s 3) =
    ap (λ (vs : List Ends). ends_at vs (pair_place i j)) m.pressure_roots ∙ six_at (pressure_root_on d) i j g (omega (arith, l, c.few))
    ∙ of_live d j (ends_on d (PressureRoot i j) 2) no_ends (omega (arith, l, c.counted)) ∙ ends_same d (PressureRoot i j) 2 k.third k.fourth here.suited.suits in
    said_is s (pos (i + 1) ∷ pos (j + 1) ∷ v.lo ∷ v.hi ∷ []) here.fits.name
    (ap (λ (z : ℤ). z ∷ pos (j + 1) ∷ v.lo ∷ v.hi ∷ []) (only_is i (number_in s 0) k.first)
    ∙ ap (λ (z : ℤ). number_in s 0 ∷ z ∷ v.lo ∷ v.hi ∷ []) (only_is j (number_in s 1) k.second)
    ∙ ap (λ (x : Ends). number_in s 0 ∷ number_in s 1 ∷ x.lo ∷ x.hi ∷ []) is ∙ sym k.all)

-- ---- the case
component : (d : Draft) (w : IsWhole d) (h : Head) → IsMadeOf d h → (i : ℕ) → i < d.shape.n → component_said h.params.case i ≡ said_on d (Component i)
component d w h m i l =
    let c = is_counted d w in
    let live : i < count_of d = omega (arith, l, c.counted) in
    let four_more : i < 4 = omega (arith, l, c.few) in
    let here = is_line d w (Component i) l in
    let s : Said = said_on d (Component i) in
    let k = are_four _ _ _ _ s.numbers here.fits.numbers in
    let rows = m.is_case.rows in
    let name = ap (λ (xs : List (List ℕ)). slice_index_or xs i []) rows.names ∙ four_at (name_on d) i [] four_more ∙ of_live d i s.name [] live in
    let tc = ap (λ (xs : List ℕ). pos (get_or xs i 0)) rows.tc ∙ ap pos (four_at (temperature_on d) i 0 four_more ∙ of_live d i (natural 5000 1500000 (number_in s 0)) 5000 live) ∙ natural_is 5000 1500000 (number_in s 0) k.first in
    let pc = ap (λ (xs : List ℕ). pos (get_or xs i 0)) rows.pc ∙ ap pos (four_at (pressure_on d) i 0 four_more ∙ of_live d i (natural 100000 50000000 (number_in s 1)) 100000 live) ∙ natural_is 100000 50000000 (number_in s 1) k.second in
    let f = ap (λ (xs : List ℤ). get_or xs i (pos 0)) rows.w ∙ four_at (factor_on d) i (pos 0) four_more ∙ of_live d i (held (neg_ℤ (pos 5000)) (pos 15000) (number_in s 2)) (pos 0) live
    ∙ held_is (neg_ℤ (pos 5000)) (pos 15000) (number_in s 2) k.third.low k.third.high in
    let z = ap (λ (xs : List ℕ). pos (get_or xs i 0)) m.is_case.parts ∙ ap pos (four_at (feed_on d) i 0 four_more) ∙ feed_number d w i l in
    rw (name, tc, pc, f, z) (whole s k.all)
  where
    the_said : List ℕ → List ℤ → Said
    the_said name numbers = record { name = name; numbers = numbers }

    whole : (s : Said) → s.numbers ≡ number_in s 0 ∷ number_in s 1 ∷ number_in s 2 ∷ number_in s 3 ∷ [] → the_said s.name (number_in s 0 ∷ number_in s 1 ∷ number_in s 2 ∷ number_in s 3 ∷ []) ≡ s
    whole s e = sym (ap (λ (zs : List ℤ). the_said s.name zs) e)

interaction_said : (d : Draft) (w : IsWhole d) (h : Head) → IsMadeOf d h → (i j : ℕ) → i < j → j < d.shape.n → says h (Interaction i j) ≡ said_on d (Interaction i j)
unfolding says
interaction_said d w h m i j g l =
    let c = is_counted d w in
    let here = is_line d w (Interaction i j) (g, l) in
    let s : Said = said_on d (Interaction i j) in
    let k = are_three (only i) (only j) _ s.numbers here.fits.numbers in
    let first : interaction_on d i j ≡ pair_on d i j = ap (λ (b : Bool). if b then pair_on d i j else (if nat_lt j i then pair_on d j i else pos 0)) (lt-ltb i j g) in
    let is : entry h.params.case.k i j ≡ number_in s 2 =
    ap (λ (rows : List (List ℤ)). entry rows i j) m.is_case.interactions
    ∙ ap (λ (row : List ℤ). get_or row j (pos 0)) (four_at (λ i. four (interaction_on d i)) i [] (omega (arith, g, l, c.few)))
    ∙ four_at (interaction_on d i) j (pos 0) (omega (arith, l, c.few)) ∙ first ∙ of_live d j (bounded 5000 (number_in s 2)) (pos 0) (omega (arith, l, c.counted))
    ∙ held_is (neg_ℤ (pos 5000)) (pos 5000) (number_in s 2) k.third.low k.third.high in
    said_is s (pos (i + 1) ∷ pos (j + 1) ∷ entry h.params.case.k i j ∷ []) here.fits.name
    (ap (λ (z : ℤ). z ∷ pos (j + 1) ∷ entry h.params.case.k i j ∷ []) (only_is i (number_in s 0) k.first)
    ∙ ap (λ (z : ℤ). number_in s 0 ∷ z ∷ entry h.params.case.k i j ∷ []) (only_is j (number_in s 1) k.second)
    ∙ ap (λ (z : ℤ). number_in s 0 ∷ number_in s 1 ∷ z ∷ []) is ∙ sym k.all)

one_of_two : (n : ℕ) → 76 ≤ n → n ≤ 78 → (n ≡ 77 → ⊥) → edition_number (if n == 78 then Y1978 else Y1976) ≡ n
one_of_two n low high not_between = by_test (n == 78) refl
  where
    by_test : (b : Bool) → (n == 78) ≡ b → edition_number (if b then Y1978 else Y1976) ≡ n
    by_test true e = sym (eqb-true n 78 e)
    by_test false e = omega (arith, low, high, not_between, eqb-false n 78 e)

edition_is : (d : Draft) → IsWhole d → d.shape.version ≡ 2 → pos (edition_number (edition_on d)) ≡ number_on d EditionLine 0
edition_is d w two =
    let here = is_line d w EditionLine two in
    let z : ℤ = number_on d EditionLine 0 in
    let r = (are_one (between (pos 76) (pos 78)) (said_on d EditionLine).numbers here.fits.numbers).first in
    let n : ℕ = natural 76 78 z in
    let same : pos n ≡ z = natural_is 76 78 z r in
    let limit : pos (up_to 78 z) ≡ z = up_to_is 78 z (grind (arith, r.low)) r.high in
    let not_77 : (up_to 78 z == 77) ≡ false = is_false (up_to 78 z == 77) here.suited.suits in
    ap (λ (b : Bool). pos (edition_number (if b && n == 78 then Y1978 else Y1976))) (eq-eqb d.shape.version 2 two)
    ∙ ap pos (one_of_two n (least n z same r.low) (most n z same r.high) (λ e. eqb-false (up_to 78 z) 77 not_77 (back (up_to 78 z) n z limit same ∙ e))) ∙ same
  where
    is_false : (b : Bool) → not b ≡ true → b ≡ false
    is_false false e = refl
    is_false true e = absurd cc

    back : (m n : ℕ) (z : ℤ) → pos m ≡ z → pos n ≡ z → m ≡ n
    back m n z e f = grind arith

    least : (n : ℕ) (z : ℤ) → pos n ≡ z → pos 76 ≤ℤ z → 76 ≤ n
    least n z e h = grind arith

    most : (n : ℕ) (z : ℤ) → pos n ≡ z → z ≤ℤ pos 78 → n ≤ 78
    most n z e h = grind arith

-- ---- the split and the plane
record IsHeaded (zs : List ℤ) (n : ℕ) : Type 0 where
  rest : List ℤ
  all : zs ≡ get_or zs 0 (pos 0) ∷ rest
  count : length rest ≡ n
  each : (i : ℕ) → get_or rest i (pos 0) ≡ get_or zs (i + 1) (pos 0)

headed : (zs : List ℤ) (n : ℕ) → length zs ≡ n + 1 → IsHeaded zs n
headed [] n e = absurd (omega (arith, e))
headed (z ∷ zs) n e = record {
  rest = zs;
  all = refl;
  count = omega (arith, e);
  each = λ i. let next : i + 1 ≡ suc i = omega arith in rw next refl;
}

phase : (d : Draft) (w : IsWhole d) (k : ℕ) → k < d.shape.phases → phase_said d.shape.n (phase_on d k) ≡ said_on d (PhaseLine k)
phase d w k l =
    let c = is_counted d w in
    let s : Said = said_on d (PhaseLine k) in
    let n : ℕ = d.shape.n in
    let t = headed s.numbers n (phase_count d w k l) in
    let parts : map pos (take n (four (part_on d k))) ≡ t.rest =
    sym (take-map pos n (four (part_on d k))) ∙ firsts (λ i. pos (part_on d k i)) t.rest (pos 0) n t.count c.few (λ i h. phase_part d w k i l h ∙ sym (t.each i)) in
    said_is s (pos (packing_on d k) ∷ map pos (take n (four (part_on d k)))) (is_line d w (PhaseLine k) l).fits.name
    (ap (λ (z : ℤ). z ∷ map pos (take n (four (part_on d k)))) (phase_packing d w k l) ∙ ap (λ (zs : List ℤ). number_in s 0 ∷ zs) parts ∙ sym t.all)

abbrev plane_ranges : List Range
plane_ranges = energy ∷ energy ∷ energy ∷ energy ∷ []

plane_count : (n : ℕ) → n ≤ 4 → length (take n plane_ranges) ≡ n
plane_count zero h = refl
plane_count (suc zero) h = refl
plane_count (suc (suc zero)) h = refl
plane_count (suc (suc (suc zero))) h = refl
plane_count (suc (suc (suc (suc zero)))) h = refl
plane_count (suc (suc (suc (suc (suc n))))) h = absurd (omega (arith, h))

plane_range : (n i : ℕ) (r : Range) → n ≤ 4 → i < n → get_or (take n plane_ranges) i r ≡ energy
plane_range n i r h l = get_or-take n plane_ranges i r l ∙ at i (omega (arith, h, l))
  where
    at : (i : ℕ) → i < 4 → get_or plane_ranges i r ≡ energy
    at zero l = refl
    at (suc zero) l = refl
    at (suc (suc zero)) l = refl
    at (suc (suc (suc zero))) l = refl
    at (suc (suc (suc (suc i)))) l = absurd (omega (arith, l))

plane_numbers : (d : Draft) (w : IsWhole d) → take d.shape.n (four (potential_on d)) ≡ (said_on d Plane).numbers
plane_numbers d w =
    let c = is_counted d w in
    let n : ℕ = d.shape.n in
    let each : (i : ℕ) → i < n → potential_on d i ≡ number_on d Plane i = λ i h.
    let r = subst (λ (s : Range). IsIn s (number_on d Plane i)) (plane_range n i _ c.few h) (is_in_range d w Plane tt i (omega (arith, h, plane_count n c.few))) in
    of_live d i (energy_on d Plane i) (pos 0) (omega (arith, h, c.counted)) ∙ held_is (neg_ℤ (pos (2 ^ 80 - 1))) (pos (2 ^ 80 - 1)) (number_on d Plane i) r.low r.high in
    firsts (potential_on d) (said_on d Plane).numbers (pos 0) n (number_count d w Plane tt ∙ plane_count n c.few) c.few each

-- an energy
energy_said : (d : Draft) → IsWhole d → (here : Place) (z : ℤ) → Fits false (energy ∷ []) (said_on d here) → z ≡ energy_on d here 0 → saying (z ∷ []) ≡ said_on d here
energy_said d w here z fits is =
    one_said (said_on d here) energy z fits (λ r. is ∙ held_is (neg_ℤ (pos (2 ^ 80 - 1))) (pos (2 ^ 80 - 1)) (number_on d here 0) r.low r.high)

-- ---- each line
pub tells : (d : Draft) → IsWhole d → (h : Head) → IsMadeOf d h → (here : Place) → HasLine d.shape here → says h here ≡ said_on d here
unfolding says
tells d w h m Version t = one_said (said_on d Version) _ (pos h.version) (is_line d w Version tt).fits (λ r. ap pos m.version ∙ (is_counted d w).version)
tells d w h m Temperature t =
    one_said (said_on d Temperature) _ (pos h.params.case.t) (is_line d w Temperature tt).fits (λ r. ap pos m.is_case.temperature ∙ natural_is 50000 1500000 (number_on d Temperature 0) r)
tells d w h m Pressure t =
    one_said (said_on d Pressure) _ (pos h.params.case.p) (is_line d w Pressure tt).fits (λ r. ap pos m.is_case.pressure ∙ natural_is 1000 100000000 (number_on d Pressure 0) r)
tells d w h m Count t =
    let c = is_counted d w in
    one_said (said_on d Count) _ (pos h.params.case.n) (is_line d w Count tt).fits (λ r. ap pos (m.is_case.count ∙ c.counted) ∙ c.count)
tells d w h m EditionLine t =
    one_said (said_on d EditionLine) _ (pos (edition_number h.params.case.edition)) (is_line d w EditionLine t).fits
    (λ r. ap (λ (e : Edition). pos (edition_number e)) m.is_case.edition ∙ edition_is d w t)
tells d w h m (Component i) t = component d w h m i t
tells d w h m (Interaction i j) t = interaction_said d w h m i j t.0 t.1
tells d w h m RootTwo t = two_ends d w RootTwo (ends_of h.params.two) m.two (is_line d w RootTwo tt).fits (is_line d w RootTwo tt).suited.suits
tells d w h m LogE t = two_ends d w LogE (ends_of h.params.e) m.e (is_line d w LogE tt).fits (is_line d w LogE tt).suited.suits
tells d w h m (TemperatureRoot i) t = temperature_root d w h m i t
tells d w h m (PressureRoot i j) t = pressure_root d w h m i j t.0 t.1
tells d w h m Split t =
    let c = is_counted d w in
    let here = is_line d w Split tt in
    let s : Said = said_on d Split in
    let k = are_two _ _ s.numbers here.fits.numbers in
    let count : pos (length h.split.phases.items) ≡ number_in s 0 =
    ap (λ (fs : List Phase). pos (length fs)) m.phases ∙ ap pos (length-map-range_with_len (phase_on d) 0 d.shape.phases) ∙ c.phases in
    let sum : pos h.split.sum ≡ number_in s 1 = ap pos m.sum ∙ natural_is 1 (2 ^ 104 - 1) (number_in s 1) k.second in
    said_is s (pos (length h.split.phases.items) ∷ pos h.split.sum ∷ []) here.fits.name
    (ap (λ (z : ℤ). z ∷ pos h.split.sum ∷ []) count ∙ ap (λ (z : ℤ). number_in s 0 ∷ z ∷ []) sum ∙ sym k.all)
tells d w h m (PhaseLine k) t =
    let c = is_counted d w in
    let inside : k < length (phases_on d) = omega (arith, t, length-map-range_with_len (phase_on d) 0 d.shape.phases) in
    let index : 0 + k ≡ k = omega arith in
    ap (λ (n : ℕ). slice_index_or (map (phase_said n) h.split.phases.items) k (saying [])) (m.is_case.count ∙ c.counted)
    ∙ ap (λ (fs : List Phase). slice_index_or (map (phase_said d.shape.n) fs) k (saying [])) m.phases
    ∙ get_or-map (phase_said d.shape.n) (phases_on d) k (phase_on d 0) (saying []) inside
    ∙ ap (phase_said d.shape.n) (get_or-map-range_with_len (phase_on d) 0 d.shape.phases k k (phase_on d 0) t index)
    ∙ phase d w k t
tells d w h m Upper t = energy_said d w Upper h.u (is_line d w Upper tt).fits m.u
tells d w h m Plane t =
    let c = is_counted d w in
    said_is (said_on d Plane) (take h.params.case.n h.plane.lam) (is_line d w Plane tt).fits.name
    (ap (λ (n : ℕ). take n h.plane.lam) (m.is_case.count ∙ c.counted) ∙ ap (take d.shape.n) m.plane ∙ plane_numbers d w)
tells d w h m Low t = energy_said d w Low h.low (is_line d w Low tt).fits m.low
tells d w h m Gap t = energy_said d w Gap h.gap (is_line d w Gap tt).fits m.gap
tells d w h m Letters t =
    let c = is_counted d w in
    one_said (said_on d Letters) _ (pos h.letters) (is_line d w Letters tt).fits (λ r. ap pos (m.letters ∙ c.lettered) ∙ c.letters)
