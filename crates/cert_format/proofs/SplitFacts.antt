-- The split and the plane of a whole head.
use Rattle.std.proofs.Common.{◌≡◌, ◌<◌, ◌≤◌, ◌+◌, ◌-◌, ◌^◌, ◌∙◌, ℕ, zero, suc, ℤ, pos, List, [], ◌∷◌, length, get_or, map, take, ap, sym, refl, subst, arith, Bool, true, false, inl, inr}
use Rattle.std.specs.Prelude.{if◌then◌else◌, nat_le, nat_lt, int_lt, ◌&&◌, slice_index, All}
use Rattle.std.specs.List.{range_with_len, list_all}
use Rattle.std.proofs.lemmas.Bool.{le-leb, lt-ltb, cases_lt}
use Rattle.std.proofs.lemmas.List.{get_or-take, get_or_past}
use Rattle.std.proofs.lemmas.List.FromFn.{length-map-range_with_len, get_or-map-range_with_len}
use Rattle.log_laws.specs.Sums.{all_below, sum_below}
use Rattle.log_laws.proofs.Exports.{le-sum_below}
use Rattle.case_types.specs.Ranges.{are_parts, is_packing}
use Rattle.case_types.specs.declared.phases.Phase.{Phase}
use Rattle.cert_lines.specs.declared.places.Place.TheVariants.{Phase as PhaseLine}
use Rattle.cert_lines.specs.declared.lines.Range.{Range}
use Rattle.cert_lines.specs.Lines.{Said, IsIn}
use Rattle.cert_lines.specs.Forms.{packing, part}
use Rattle.cert_lines.specs.Heads.{Draft, count_of, number_in, has_part}
use Rattle.cert_lines.specs.Indices.{said_on, number_on}
use Rattle.cert_format.specs.Building.{IsWhole, four, natural, packing_on, part_on, phase_on, phases_on}
use Rattle.cert_format.proofs.Held.{natural_between, natural_is}
use Rattle.cert_format.proofs.Live.{of_live, of_other}
use Rattle.cert_format.proofs.Whole.{is_line, is_in_range, number_count, is_counted}
use Rattle.cert_format.proofs.CaseFacts.{four_sum, more_sum, below_four}

-- ---- the first of four
pub firsts : {X : Type 0} → (f : ℕ → X) (xs : List X) (x : X) (n : ℕ) → length xs ≡ n → n ≤ 4 → ((i : ℕ) → i < n → f i ≡ get_or xs i x) → take n (four f) ≡ xs
firsts f xs x n is few h = subst (λ (m : ℕ). take m (four f) ≡ xs) is (go xs (omega (arith, is, few)) (λ i l. h i (omega (arith, l, is))))
  where
    go : (ys : List _) → length ys ≤ 4 → ((i : ℕ) → i < length ys → f i ≡ get_or ys i x) → take (length ys) (four f) ≡ ys
    go [] few h = refl
    go (a ∷ []) few h = rw (h 0 (omega arith)) refl
    go (a ∷ b ∷ []) few h = rw (h 0 (omega arith), h 1 (omega arith)) refl
    go (a ∷ b ∷ c ∷ []) few h = rw (h 0 (omega arith), h 1 (omega arith), h 2 (omega arith)) refl
    go (a ∷ b ∷ c ∷ e ∷ []) few h = rw (h 0 (omega arith), h 1 (omega arith), h 2 (omega arith), h 3 (omega arith)) refl
    go (a ∷ b ∷ c ∷ e ∷ g ∷ ys) few h = absurd (omega (arith, few))

-- ---- the numbers of a phase
abbrev phase_ranges : List Range
phase_ranges = packing ∷ part ∷ part ∷ part ∷ part ∷ []

range_count : (n : ℕ) → n ≤ 4 → length (take (n + 1) phase_ranges) ≡ n + 1
range_count zero h = refl
range_count (suc zero) h = refl
range_count (suc (suc zero)) h = refl
range_count (suc (suc (suc zero))) h = refl
range_count (suc (suc (suc (suc zero)))) h = refl
range_count (suc (suc (suc (suc (suc n))))) h = absurd (omega (arith, h))

range_of_part : (n i : ℕ) (r : Range) → n ≤ 4 → i < n → get_or (take (n + 1) phase_ranges) (i + 1) r ≡ part
range_of_part n i r h l = get_or-take (n + 1) phase_ranges (i + 1) r (omega (arith, l)) ∙ at i (omega (arith, h, l))
  where
    at : (i : ℕ) → i < 4 → get_or phase_ranges (i + 1) r ≡ part
    at zero l = refl
    at (suc zero) l = refl
    at (suc (suc zero)) l = refl
    at (suc (suc (suc zero))) l = refl
    at (suc (suc (suc (suc i)))) l = absurd (omega (arith, l))

first_range : (n : ℕ) (r : Range) → get_or (take (n + 1) phase_ranges) 0 r ≡ packing
first_range n r =
    let e : n + 1 ≡ suc n = omega arith in
    rw e refl

pub phase_count : (d : Draft) → IsWhole d → (k : ℕ) → k < d.shape.phases → length (said_on d (PhaseLine k)).numbers ≡ d.shape.n + 1
phase_count d w k h = number_count d w (PhaseLine k) h ∙ range_count d.shape.n (is_counted d w).few

pub phase_packing : (d : Draft) → IsWhole d → (k : ℕ) → k < d.shape.phases → pos (packing_on d k) ≡ number_on d (PhaseLine k) 0
phase_packing d w k h =
    let c = is_counted d w in
    let r = is_in_range d w (PhaseLine k) h 0 (omega (arith, range_count d.shape.n c.few)) in
    natural_is 1 (2 ^ 40 - 1) (number_on d (PhaseLine k) 0) (subst (λ (s : Range). IsIn s (number_on d (PhaseLine k) 0)) (first_range d.shape.n _) r)

pub phase_part : (d : Draft) → IsWhole d → (k i : ℕ) → k < d.shape.phases → i < d.shape.n → pos (part_on d k i) ≡ number_on d (PhaseLine k) (i + 1)
phase_part d w k i h l =
    let c = is_counted d w in
    let r = is_in_range d w (PhaseLine k) h (i + 1) (omega (arith, l, range_count d.shape.n c.few)) in
    ap pos (of_live d i (natural 0 (2 ^ 104 - 1) (number_on d (PhaseLine k) (i + 1))) 0 (omega (arith, l, c.counted)))
    ∙ natural_is 0 (2 ^ 104 - 1) (number_on d (PhaseLine k) (i + 1)) (subst (λ (s : Range). IsIn s (number_on d (PhaseLine k) (i + 1))) (range_of_part d.shape.n i _ c.few l) r)

-- ---- a phase isn't empty
record SomePart (s : Said) : Type 0 where
  at : ℕ
  few : at < 4
  some : int_lt (pos 0) (number_in s (at + 1)) ≡ true

some_part : (s : Said) → has_part s ≡ true → SomePart s
some_part s e = by_tests (int_lt (pos 0) (number_in s 1)) (int_lt (pos 0) (number_in s 2)) (int_lt (pos 0) (number_in s 3)) (int_lt (pos 0) (number_in s 4)) refl refl refl refl e
  where
    by_tests : (a b c f : Bool) → int_lt (pos 0) (number_in s 1) ≡ a → int_lt (pos 0) (number_in s 2) ≡ b → int_lt (pos 0) (number_in s 3) ≡ c → int_lt (pos 0) (number_in s 4) ≡ f
        → (if a then true else (if b then true else (if c then true else f))) ≡ true → SomePart s
    by_tests true b c f p q r t e = record { at = 0; few = omega arith; some = p }
    by_tests false true c f p q r t e = record { at = 1; few = omega arith; some = q }
    by_tests false false true f p q r t e = record { at = 2; few = omega arith; some = r }
    by_tests false false false true p q r t e = record { at = 3; few = omega arith; some = t }
    by_tests false false false false p q r t e = absurd cc

-- a number above 0 that a line has
not_above : int_lt (pos 0) (pos 0) ≡ true → ⊥
not_above e = absurd cc

number_past : (zs : List ℤ) (k : ℕ) → length zs ≤ k → int_lt (pos 0) (get_or zs k (pos 0)) ≡ true → ⊥
number_past zs k h e = not_above (subst (λ (z : ℤ). int_lt (pos 0) z ≡ true) (get_or_past zs k (pos 0) h) e)

size_some : (n : ℕ) (z : ℤ) → pos n ≡ z → int_lt (pos 0) z ≡ true → 1 ≤ n
size_some zero z e f = absurd (not_above (subst (λ (z : ℤ). int_lt (pos 0) z ≡ true) (sym e) f))
size_some (suc n) z e f = omega arith

pub parts_some : (d : Draft) → IsWhole d → (k : ℕ) → k < d.shape.phases → 1 ≤ sum_below d.shape.n (part_on d k)
parts_some d w k h =
    let s = some_part (said_on d (PhaseLine k)) (is_line d w (PhaseLine k) h).suited.suits in
    elim (cases_lt s.at d.shape.n) [
      | inl l ↦ omega (arith, le-sum_below d.shape.n s.at (part_on d k) l, size_some (part_on d k s.at) (number_on d (PhaseLine k) (s.at + 1)) (phase_part d w k s.at h l) s.some)
      | inr l ↦ absurd (number_past (said_on d (PhaseLine k)).numbers (s.at + 1) (omega (arith, l, phase_count d w k h)) s.some)
    ]

part_small : (d : Draft) (k i : ℕ) → nat_lt (part_on d k i) (2 ^ 104) ≡ true
part_small d k i = lt-ltb (part_on d k i) (2 ^ 104) (by_test (nat_lt i (count_of d)))
  where
    by_test : (b : Bool) → (if b then natural 0 (2 ^ 104 - 1) (number_on d (PhaseLine k) (i + 1)) else 0) < 2 ^ 104
    by_test true =
        let n = natural_between 0 (2 ^ 104 - 1) (number_on d (PhaseLine k) (i + 1)) (omega arith) in
        omega (arith, n.below)
    by_test false = omega arith

all_parts : (d : Draft) (k : ℕ) → d.shape.n ≤ 4 → count_of d ≡ d.shape.n → sum_below 4 (part_on d k) ≡ sum_below d.shape.n (part_on d k)
all_parts d k few is =
    let all : d.shape.n + (4 - d.shape.n) ≡ 4 = omega (arith, few) in
    sym (ap (λ (m : ℕ). sum_below m (part_on d k)) all)
    ∙ more_sum (4 - d.shape.n) d.shape.n (part_on d k) (λ i h. of_other d i (natural 0 (2 ^ 104 - 1) (number_on d (PhaseLine k) (i + 1))) 0 (omega (arith, h, is)))

both : (a b : Bool) → a ≡ true → b ≡ true → (a && b) ≡ true
both a b e f = rw (e, f) refl

pub parts_in : (d : Draft) → IsWhole d → (k : ℕ) → k < d.shape.phases → are_parts (phase_on d k).parts ≡ true
parts_in d w k h =
    let c = is_counted d w in
    both (all_below 4 (λ i. nat_lt (get_or (four (part_on d k)) i 0) (2 ^ 104))) (nat_le 1 (sum_below 4 (slice_index (four (part_on d k)))))
    (below_four (λ (p : ℕ). nat_lt p (2 ^ 104)) (part_on d k) (four (part_on d k)) 0 4 (omega arith) refl (λ i l. part_small d k i))
    (le-leb 1 (sum_below 4 (slice_index (four (part_on d k)))) (omega (arith, four_sum 4 (part_on d k) (omega arith), all_parts d k c.few c.counted, parts_some d w k h)))

pub packing_in : (d : Draft) (k : ℕ) → is_packing (phase_on d k).packing ≡ true
packing_in d k =
    let n = natural_between 1 (2 ^ 40 - 1) (number_on d (PhaseLine k) 0) (omega arith) in
    both (nat_le 1 (packing_on d k)) (nat_lt (packing_on d k) (2 ^ 40)) (le-leb 1 (packing_on d k) n.above) (lt-ltb (packing_on d k) (2 ^ 40) (omega (arith, n.below)))

-- ---- all phases
pub all_pass : {X : Type 0} → (p : X → Bool) (f : ℕ → X) (a n : ℕ) → ((k : ℕ) → k < a + n → p (f k) ≡ true) → list_all p (map f (range_with_len a n)) ≡ true
all_pass p f a zero h = refl
all_pass p f a (suc n) h = both (p (f a)) (list_all p (map f (range_with_len (a + 1) n))) (h a (omega arith)) (all_pass p f (a + 1) n (λ k l. h k (omega (arith, l))))

pub all_hold : {X : Type 0} → (P : X → Type 0) (f : ℕ → X) (a n : ℕ) → ((k : ℕ) → k < a + n → P (f k)) → All P (map f (range_with_len a n))
all_hold P f a n h = λ k x l.
    let inside : k < n = omega (arith, l, length-map-range_with_len f a n) in
    subst P (sym (get_or-map-range_with_len f a n k (a + k) x inside refl)) (h (a + k) (omega (arith, inside)))

pub all_parted : (d : Draft) → IsWhole d → list_all (λ (f : Phase). are_parts f.parts) (phases_on d) ≡ true
all_parted d w = all_pass (λ (f : Phase). are_parts f.parts) (phase_on d) 0 d.shape.phases (λ k l. parts_in d w k (omega (arith, l)))

pub all_packed : (d : Draft) → list_all (λ (f : Phase). is_packing f.packing) (phases_on d) ≡ true
all_packed d = all_pass (λ (f : Phase). is_packing f.packing) (phase_on d) 0 d.shape.phases (λ k l. packing_in d k)

pub all_some : (d : Draft) → IsWhole d → All (λ (f : Phase). 0 < sum_below d.shape.n (slice_index f.parts)) (phases_on d)
all_some d w =
    all_hold (λ (f : Phase). 0 < sum_below d.shape.n (slice_index f.parts)) (phase_on d) 0 d.shape.phases
    (λ k l. omega (arith, four_sum d.shape.n (part_on d k) (is_counted d w).few, parts_some d w k (omega (arith, l))))
