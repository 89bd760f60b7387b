-- What a head says fits the lines that say it.
use Rattle.std.proofs.Common.{◌≡◌, ℕ, zero, suc, ◌+◌, ◌-◌, ◌^◌, ◌<◌, ◌≤◌, List, [], ◌∷◌, length, get_or, map, take, refl, subst, arith, Bool, true, false, ◌&&◌, ◌||◌, ℤ, pos, negsuc, ◌≤ℤ◌, neg_ℤ, slice_index, slice_index_or, Ok, inl, inr}
use Rattle.std.specs.Prelude.{◌==◌, nat_le, nat_lt, unsigned_abs}
use Rattle.std.specs.List.{All, list_all}
use Rattle.std.proofs.lemmas.Int.{ints}
use Rattle.std.proofs.lemmas.Bool.{leb-true, ltb-true, lt-ltb, and_parts}
use Rattle.std.proofs.lemmas.List.{get_or-take, get_or_default, length-take}
use Rattle.std.proofs.lemmas.List.Elements.{All-head, All-tail}
use Rattle.std.proofs.lemmas.List.Sums.{AllPass-from_list_all, list_all-from_AllPass}
use Rattle.log_laws.specs.Between.{Ends}
use Rattle.log_laws.specs.Interval.{ends_of}
use Rattle.log_laws.specs.Sums.{list_below}
use Rattle.log_laws.specs.declared.iv.Iv.{Iv}
use Rattle.log_laws.proofs.Exports.{all_below-at, get_or-list_below, le-sum_below, length-list_below}
use Rattle.case_types.specs.Arithmetic.Tables.{ends_at}
use Rattle.case_types.specs.Energy.Components.{feed}
use Rattle.case_types.specs.Energy.Instances.{pair_place}
use Rattle.case_types.specs.Ranges.{are_parts, is_each_below, is_name, is_name_byte, is_packing}
use Rattle.case_types.specs.declared.cases.Case.{Case}
use Rattle.case_types.specs.declared.cases.Edition.{Edition}
use Rattle.case_types.specs.declared.cases.Edition.TheVariants.{Y1976, Y1978}
use Rattle.case_types.specs.declared.cases.Row.{Row}
use Rattle.case_types.specs.declared.phases.Phase.{Phase}
use Rattle.case_types.proofs.Exports.{part_small}
use Rattle.case_words.specs.Names.{text_of, name_of, is_name_length}
use Rattle.pr_params.proofs.Exports.{component_at, interaction_at_least, interaction_at_most}
use Rattle.cert_lines.specs.Forms.{between, below_size, end, energy, is_named, only, packing, part, ranges_of}
use Rattle.cert_lines.specs.Lines.{AreIn, Fits, IsIn}
use Rattle.cert_lines.specs.Places.{IsPlaceOf}
use Rattle.cert_lines.specs.declared.lines.Range.{Range}
use Rattle.cert_lines.specs.declared.places.Place.{Place}
use Rattle.cert_lines.specs.declared.places.Place.TheVariants.{Version, Temperature, Pressure, Count, Edition as EditionLine, Component, Interaction, RootTwo, LogE, TemperatureRoot, PressureRoot, Split as SplitLine, Phase as PhaseLine, Upper, Plane, Low, Gap, Letters}
use Rattle.cert_format.specs.Heads.{IsHead, IsVersionOf, edition_number, name_of_component, phase_said, saying, says, shape_of}
use Rattle.cert_format.specs.Writing.{IsSized}
use Rattle.cert_format.specs.declared.heads.Head.{Head}
use Rattle.cert_format.proofs.Phases.{phase_numbers}

-- ---- numbers in ranges
in_naturals : (low high v : ℕ) → low ≤ v → v ≤ high → high < 2 ^ 126 → IsIn (between (pos low) (pos high)) (pos v)
in_naturals low high v l h s = record { low = omega (arith, ints, l); high = omega (arith, ints, h); small = omega (arith, h, s) }

in_size : (limit : ℕ) (z : ℤ) → unsigned_abs z < limit → limit ≤ 2 ^ 126 → IsIn (below_size limit) z
in_size limit (pos n) h s = record { low = omega (arith, ints, h); high = omega (arith, ints, h); small = omega (arith, h, s) }
in_size limit (negsuc n) h s = record { low = omega (arith, ints, h); high = omega (arith, ints, h); small = omega (arith, h, s) }

in_thousands : (high : ℕ) (z : ℤ) → neg_ℤ (pos 5000) ≤ℤ z → z ≤ℤ pos high → high ≤ 15000 → IsIn (between (neg_ℤ (pos 5000)) (pos high)) z
in_thousands high (pos n) l h s = record { low = l; high = h; small = omega (arith, ints, h, s) }
in_thousands high (negsuc n) l h s = record { low = l; high = h; small = omega (arith, ints, l) }

one_only : (i : ℕ) → i < 4 → IsIn (only i) (pos (i + 1))
one_only i h = in_naturals (i + 1) (i + 1) (i + 1) (omega arith) (omega arith) (omega (arith, h))

first_in : (n : ℕ) (rs : List Range) (zs : List ℤ) → AreIn rs zs → AreIn (take n rs) (take n zs)
first_in zero rs zs f = tt
first_in (suc n) [] [] f = tt
first_in (suc n) [] (z ∷ zs) f = absurd f
first_in (suc n) (r ∷ rs) [] f = absurd f
first_in (suc n) (r ∷ rs) (z ∷ zs) f = (f.0, first_in n rs zs f.1)

-- ---- pairs of ends
pub record AreEnds (v : Ends) : Type 0 where
  pub ordered : v.lo ≤ℤ v.hi
  pub lo : unsigned_abs v.lo < 2 ^ 62
  pub hi : unsigned_abs v.hi < 2 ^ 62

pub ends_kept : (v : Iv) → AreEnds (ends_of v)
ends_kept v = record { ordered = v.ordered; lo = v.lo_small; hi = v.hi_small }

pub ends_kept_at : (vs : List Iv) (i : ℕ) → AreEnds (ends_at (map ends_of vs) i)
ends_kept_at [] i = record { ordered = omega (arith, ints); lo = omega arith; hi = omega arith }
ends_kept_at (v ∷ vs) zero = ends_kept v
ends_kept_at (v ∷ vs) (suc i) = ends_kept_at vs i

end_in : (z : ℤ) → unsigned_abs z < 2 ^ 62 → IsIn end z
end_in z h = in_size (2 ^ 62) z h (omega arith)

-- ---- names
-- a test of two parts of which the second can't hold
first_part : (a b c d : Bool) → a ≡ true → c ≡ false → (a && b || c && d) ≡ true → b ≡ true
first_part true true c d p q e = refl
first_part true false true d p q e = absurd cc
first_part true false false d p q e = absurd cc
first_part false b c d p q e = absurd cc

not_at_most : (a b : ℕ) → b < a → nat_le a b ≡ false
not_at_most a b h = grind (arith, h)

name_bytes : (len : ℕ) (bytes : List ℕ) → len ≤ 16 → is_name len bytes ≡ true → list_all is_name_byte (take len bytes) ≡ true
name_bytes len bytes few is = list_all-from_AllPass is_name_byte (take len bytes) (λ k d h. at k d h)
  where
    at : (k d : ℕ) → k < length (take len bytes) → is_name_byte (get_or (take len bytes) k d) ≡ true
    at k d h =
        let short = length-take len bytes in
        let less : k < len = omega (arith, h, short) in
        let inside : k < length bytes = omega (arith, h, short) in
        let here = all_below-at 16 (λ i. nat_lt i len && is_name_byte (slice_index bytes i) || nat_le len i && slice_index bytes i == 0) k (omega (arith, less, few)) is in
        let no : nat_le len k ≡ false = not_at_most len k less in
        rw (get_or-take len bytes k d less, get_or_default bytes k d 0 inside)
        (first_part (nat_lt k len) (is_name_byte (slice_index bytes k)) (nat_le len k) (slice_index bytes k == 0) (lt-ltb k len less) no here)

row_bytes : (rows : List Row) (i : ℕ) → list_all is_name_byte (slice_index_or (map (λ (r : Row). text_of r.name) rows) i []) ≡ true
row_bytes [] i = refl
row_bytes (r ∷ rows) zero = name_bytes r.name.len r.name.bytes r.name.short r.name.spelled
row_bytes (r ∷ rows) (suc i) = row_bytes rows i

is_a_name : (text : List ℕ) → is_name_length text ≡ true → list_all is_name_byte text ≡ true → name_of text ≡ Ok text
unfolding name_of
is_a_name text long bytes =
    let both = and_parts (nat_le 1 (length text)) (nat_le (length text) 16) long in
    let some : (length text == 0) ≡ false = grind (arith, leb-true 1 (length text) both.0) in
    rw (some, both.1, bytes) refl

-- the name of a live component has a length, and is a name
pub name_long_at : (h : Head) → IsHead h → (i : ℕ) → i < h.params.case.n → is_name_length (name_of_component h.params.case i) ≡ true
name_long_at h is i live =
    let n = h.params.case.n in
    let name : ℕ → List ℕ = name_of_component h.params.case in
    subst (λ (t : List ℕ). is_name_length t ≡ true) (get_or-list_below n name [] i live)
    (AllPass-from_list_all is_name_length (list_below n name) is.named i [] (omega (arith, live, length-list_below n name)))

-- ---- phases
parts_in : (n y : ℕ) (parts : List ℕ) → length parts ≡ 4 → are_parts parts ≡ true → is_packing y ≡ true
    → AreIn (take (n + 1) (packing ∷ part ∷ part ∷ part ∷ part ∷ [])) (pos y ∷ map pos (take n parts))
parts_in n y parts four are is =
    let both = and_parts (nat_le 1 y) (nat_lt y (2 ^ 40)) is in
    let low = leb-true 1 y both.0 in
    let high = ltb-true y (2 ^ 40) both.1 in
    let small : (i : ℕ) → i < 4 → IsIn part (pos (slice_index parts i)) =
    λ i l. let s = part_small parts i l are in in_naturals 0 (2 ^ 104 - 1) (slice_index parts i) (omega arith) (omega (arith, s)) (omega arith) in
    subst (AreIn (take (n + 1) (packing ∷ part ∷ part ∷ part ∷ part ∷ []))) (phase_numbers n y parts four)
    (first_in (n + 1) (packing ∷ part ∷ part ∷ part ∷ part ∷ []) (pos y ∷ pos (slice_index parts 0) ∷ pos (slice_index parts 1) ∷ pos (slice_index parts 2) ∷ pos (slice_index parts 3) ∷ []) (
      in_naturals 1 (2 ^ 40 - 1) y low (omega (arith, high)) (omega arith),
      (small 0 (omega arith), (small 1 (omega arith), (small 2 (omega arith), (small 3 (omega arith), tt)))),
    ))

phase_in : (n : ℕ) (fs : List Phase) (k : ℕ) → k < length fs → All (λ (f : Phase). length f.parts ≡ 4) fs
    → list_all (λ (f : Phase). are_parts f.parts) fs ≡ true → list_all (λ (f : Phase). is_packing f.packing) fs ≡ true
    → Fits false (ranges_of n (PhaseLine k)) (slice_index_or (map (phase_said n) fs) k (saying []))
phase_in n [] k l four are is = absurd (omega (arith, l))
phase_in n (f ∷ fs) zero l four are is =
    let a = and_parts (are_parts f.parts) (list_all (λ (f : Phase). are_parts f.parts) fs) are in
    let b = and_parts (is_packing f.packing) (list_all (λ (f : Phase). is_packing f.packing) fs) is in
    record { name = refl; numbers = parts_in n f.packing f.parts (All-head (λ (f : Phase). length f.parts ≡ 4) f fs four) a.0 b.0 }
phase_in n (f ∷ fs) (suc k) l four are is =
    let a = and_parts (are_parts f.parts) (list_all (λ (f : Phase). are_parts f.parts) fs) are in
    let b = and_parts (is_packing f.packing) (list_all (λ (f : Phase). is_packing f.packing) fs) is in
    phase_in n fs k (omega (arith, l)) (All-tail (λ (f : Phase). length f.parts ≡ 4) f fs four) a.1 b.1

-- ---- energies
energy_in : (z : ℤ) → unsigned_abs z < 2 ^ 80 → IsIn energy z
energy_in z h = in_size (2 ^ 80) z h (omega arith)

plane_in : (lam : List ℤ) → length lam ≡ 4 → is_each_below 4 lam (2 ^ 80) ≡ true → AreIn (energy ∷ energy ∷ energy ∷ energy ∷ []) lam
plane_in (a ∷ b ∷ c ∷ d ∷ []) four small =
    let each : (i : ℕ) → i < 4 → IsIn energy (slice_index_or (a ∷ b ∷ c ∷ d ∷ []) i (pos 0)) =
    λ i l. energy_in (slice_index_or (a ∷ b ∷ c ∷ d ∷ []) i (pos 0)) (ltb-true _ _ (all_below-at 4 (λ i. nat_lt (unsigned_abs (slice_index_or (a ∷ b ∷ c ∷ d ∷ []) i (pos 0))) (2 ^ 80)) i l small)) in
    (each 0 (omega arith), (each 1 (omega arith), (each 2 (omega arith), (each 3 (omega arith), tt))))
plane_in [] four small = absurd (omega (arith, four))
plane_in (a ∷ []) four small = absurd (omega (arith, four))
plane_in (a ∷ b ∷ []) four small = absurd (omega (arith, four))
plane_in (a ∷ b ∷ c ∷ []) four small = absurd (omega (arith, four))
plane_in (a ∷ b ∷ c ∷ d ∷ e ∷ others) four small = absurd (omega (arith, four))

-- ---- the feed
feed_in : (c : Case) (i : ℕ) → i < c.n → IsIn (between (pos 1) (pos 1048576)) (pos (feed c i))
feed_in c i live =
    let some = leb-true 1 (feed c i) (all_below-at c.n (λ i. nat_le 1 (slice_index c.z i)) i live c.live) in
    in_naturals 1 1048576 (feed c i) some (omega (arith, le-sum_below c.n i (slice_index c.z) live, c.added, c.total_high)) (omega arith)

-- ---- the lines
version_in : (version : ℕ) (e : Edition) → IsVersionOf version e → IsIn (between (pos 1) (pos 2)) (pos version)
version_in version e is = elim is [
  | inl h ↦ in_naturals 1 2 version (omega (arith, h.0)) (omega (arith, h.0)) (omega arith)
  | inr h ↦ in_naturals 1 2 version (omega (arith, h)) (omega (arith, h)) (omega arith)
]

edition_in : (e : Edition) → IsIn (between (pos 76) (pos 78)) (pos (edition_number e))
edition_in Y1976 = in_naturals 76 78 76 (omega arith) (omega arith) (omega arith)
edition_in Y1978 = in_naturals 76 78 78 (omega arith) (omega arith) (omega arith)

pub says_fits : (h : Head) → IsHead h → IsSized h → (p : Place) → IsPlaceOf (shape_of h) p → Fits (is_named p) (ranges_of h.params.case.n p) (says h p)
unfolding says
says_fits h is sized Version w = record { name = refl; numbers = (version_in h.version h.params.case.edition is.version, tt) }
says_fits h is sized Temperature w =
    let c = h.params.case in
    record { name = refl; numbers = (in_naturals 50000 1500000 c.t c.t_low c.t_high (omega arith), tt) }
says_fits h is sized Pressure w =
    let c = h.params.case in
    record { name = refl; numbers = (in_naturals 1000 100000000 c.p c.p_low c.p_high (omega arith), tt) }
says_fits h is sized Count w =
    let c = h.params.case in
    record { name = refl; numbers = (in_naturals 1 4 c.n c.some c.few (omega arith), tt) }
says_fits h is sized EditionLine w = record { name = refl; numbers = (edition_in h.params.case.edition, tt) }
says_fits h is sized (Component i) w =
    let c = h.params.case in
    let k = component_at c i w in
    record {
      name = is_a_name (name_of_component c i) (name_long_at h is i w) (row_bytes c.rows i);
      numbers = (
        in_naturals 5000 1500000 _ k.tc_low k.tc_high (omega arith),
        (in_naturals 100000 50000000 _ k.pc_low k.pc_high (omega arith), (in_thousands 15000 _ k.w_low k.w_high (omega arith), (feed_in c i w, tt))),
      );
    }
says_fits h is sized (Interaction i j) w =
    let c = h.params.case in
    let few = c.few in
    record {
      name = refl;
      numbers = (
        one_only i (omega (arith, w.0, w.1, few)),
        (
          one_only j (omega (arith, w.1, few)),
          (in_thousands 5000 _ (interaction_at_least c i j (omega (arith, w.0, w.1)) w.1) (interaction_at_most c i j (omega (arith, w.0, w.1)) w.1) (omega arith), tt),
        ),
      );
    }
says_fits h is sized RootTwo w =
    let v = ends_kept h.params.two in
    record { name = refl; numbers = (end_in _ v.lo, (end_in _ v.hi, tt)) }
says_fits h is sized LogE w =
    let v = ends_kept h.params.e in
    record { name = refl; numbers = (end_in _ v.lo, (end_in _ v.hi, tt)) }
says_fits h is sized (TemperatureRoot i) w =
    let v = ends_kept_at h.params.t i in
    record { name = refl; numbers = (one_only i (omega (arith, w, h.params.case.few)), (end_in _ v.lo, (end_in _ v.hi, tt))) }
says_fits h is sized (PressureRoot i j) w =
    let few = h.params.case.few in
    let v = ends_kept_at h.params.q (pair_place i j) in
    record { name = refl; numbers = (one_only i (omega (arith, w.0, w.1, few)), (one_only j (omega (arith, w.1, few)), (end_in _ v.lo, (end_in _ v.hi, tt)))) }
says_fits h is sized SplitLine w =
    let s = h.split in
    let small : s.sum < 2 ^ 104 = s.small in
    record { name = refl; numbers = (in_naturals 1 4 (length s.phases.items) s.some sized.phases (omega arith), (in_naturals 1 (2 ^ 104 - 1) s.sum s.positive (omega (arith, small)) (omega arith), tt)) }
says_fits h is sized (PhaseLine k) w = phase_in h.params.case.n h.split.phases.items k w sized.parts h.split.parted h.split.packed
says_fits h is sized Upper w = record { name = refl; numbers = (energy_in h.u is.u, tt) }
says_fits h is sized Plane w = record { name = refl; numbers = first_in h.params.case.n (energy ∷ energy ∷ energy ∷ energy ∷ []) h.plane.lam (plane_in h.plane.lam sized.plane h.plane.small) }
says_fits h is sized Low w = record { name = refl; numbers = (energy_in h.low is.low, tt) }
says_fits h is sized Gap w = record { name = refl; numbers = (energy_in h.gap is.gap, tt) }
says_fits h is sized Letters w = record { name = refl; numbers = (in_naturals 1 60000000 h.letters is.some is.few (omega arith), tt) }
