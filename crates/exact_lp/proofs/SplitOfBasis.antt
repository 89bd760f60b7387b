-- The split of a basis is a division of the feed.
use Rattle.std.proofs.Common.{◌≡◌, ℕ, zero, suc, ◌+◌, ◌*◌, ◌^◌, ◌<◌, ◌≤◌, Bool, true, false, List, [], ◌∷◌, ◌++◌, length, length-append, map, get_or, ℤ, pos, ◌*ℤ◌, slice_index, refl, ap, sym, ◌∙◌, arith}
use Rattle.std.specs.Prelude.{if◌then◌else◌, nat_eq, nat_lt, nat_le, IsTrue, ◌&&◌}
use Rattle.std.specs.List.{All, list_all}
use Rattle.std.proofs.lemmas.List.{append-nil}
use Rattle.std.proofs.lemmas.List.Folds.{list_all-append}
use Rattle.std.proofs.lemmas.List.Elements.{All-map}
use Rattle.std.proofs.lemmas.List.Sums.{AllPass-from_list_all}
use Rattle.case_types.proofs.Exports.{state_of-is_state, total_positive}
use Rattle.exact_lp.proofs.AfterPivot.{spans_above}
use Rattle.std.proofs.Math.Nat.{mul-pos, mul-le-mul}
use Rattle.case_types.specs.Ranges.{are_parts, is_packing, is_each_below}
use Rattle.log_laws.proofs.Exports.{natural_product, all_below-from, le-sum_below, sum-same, sum-whole}
use Rattle.std.proofs.lemmas.Int.{ints}
use Rattle.std.proofs.lemmas.Bool.Decides.{nat_tests}
use Rattle.std.proofs.lemmas.Bool.{lt-ltb, ltb-true, le-leb, eqb-true}
use Rattle.log_laws.specs.Sums.{sum_below, all_below}
use Rattle.case_types.specs.declared.cases.Case.{Case}
use Rattle.case_types.specs.declared.phases.Phase.{Phase}
use Rattle.case_types.specs.declared.phases.Split.{Split}
use Rattle.case_types.specs.declared.rounds.Column.{Column}
use Rattle.case_types.specs.Energy.Components.{feed}
use Rattle.case_types.specs.Energy.Divisions.{state_of, parts_in, division_of, AddsUp, IsState, Divides}
use Rattle.energy_surface.specs.Program.Bases.{column_at, system, feed_of, AreColumns, IsBasis}
use Rattle.energy_surface.specs.Program.Solutions.{size, amount}
use Rattle.energy_surface.specs.Program.Splits.{weight_of, live_part, weighted_phase, weighted_phases, phases_below, IsBasisSplit}
use Rattle.exact_lp.proofs.DeterminantRules.{by_count, by_place}
use Rattle.exact_lp.specs.Frames.{entry}
use Rattle.exact_lp.proofs.MachineNumbers.{entry_small}
use Rattle.exact_lp.proofs.Systems.{amounts_make}

parts_in-append : (fs : List Phase) (f : Phase) (i : ℕ) → parts_in (map state_of (fs ++ f ∷ [])) i ≡ parts_in (map state_of fs) i + slice_index f.parts i
parts_in-append [] f i = omega arith
parts_in-append (g ∷ fs) f i = rw (parts_in-append fs f i) (omega arith)

part_of_phase : (c : Case) (cols : List Column) (at : List ℕ) (k i : ℕ) → i < c.n → i < 4 → slice_index (weighted_phase c.n (weight_of c cols at k) (column_at cols (slice_index at k))).parts i ≡ weight_of c cols at k * slice_index (column_at cols (slice_index at k)).comp i
part_of_phase c cols at k i h g =
    by_place (λ i. i < c.n → slice_index (weighted_phase c.n (weight_of c cols at k) (column_at cols (slice_index at k))).parts i ≡ weight_of c cols at k * slice_index (column_at cols (slice_index at k)).comp i)
    (λ h. rw (lt-ltb 0 c.n h) refl) (λ h. rw (lt-ltb 1 c.n h) refl) (λ h. rw (lt-ltb 2 c.n h) refl) (λ h. rw (lt-ltb 3 c.n h) refl) i g h

one_phase_more : (c : Case) (cols : List Column) (at : List ℕ) (k i : ℕ) (b : Bool) → nat_eq (weight_of c cols at k) 0 ≡ b → i < c.n → i < 4 → (fs : List Phase) →
    parts_in (map state_of (fs ++ weighted_phases c.n (weight_of c cols at k) (column_at cols (slice_index at k)))) i
    ≡ parts_in (map state_of fs) i + weight_of c cols at k * slice_index (column_at cols (slice_index at k)).comp i
one_phase_more c cols at k i true e h g fs =
    rw (e, append-nil fs, eqb-true (weight_of c cols at k) 0 e) (omega arith)
one_phase_more c cols at k i false e h g fs =
    rw e (parts_in-append fs (weighted_phase c.n (weight_of c cols at k) (column_at cols (slice_index at k))) i ∙ ap (λ (t : ℕ). parts_in (map state_of fs) i + t) (part_of_phase c cols at k i h g))

pub phases_parts : (c : Case) (cols : List Column) (at : List ℕ) (k i : ℕ) → i < c.n → i < 4 →
    parts_in (map state_of (phases_below c cols at k)) i ≡ sum_below k (λ j. weight_of c cols at j * slice_index (column_at cols (slice_index at j)).comp i)
unfolding phases_below
phases_parts c cols at zero i h g = refl
phases_parts c cols at (suc k) i h g =
    one_phase_more c cols at k i (nat_eq (weight_of c cols at k) 0) refl h g (phases_below c cols at k)
    ∙ ap (λ (t : ℕ). t + weight_of c cols at k * slice_index (column_at cols (slice_index at k)).comp i) (phases_parts c cols at k i h g)

pub pos_same : (a b : ℕ) → pos a ≡ pos b → a ≡ b
pos_same a b h = omega (arith, ints, h)

weights_make : (c : Case) (cols : List Column) (at : List ℕ) → IsBasis c cols at → (i : ℕ) → i < c.n →
    sum_below c.n (λ j. weight_of c cols at j * slice_index (column_at cols (slice_index at j)).comp i) ≡ size c.n (system cols at) * feed c i
weights_make c cols at basis i h =
    pos_same (sum_below c.n (λ j. weight_of c cols at j * slice_index (column_at cols (slice_index at j)).comp i)) (size c.n (system cols at) * feed c i)
    (sym (sum-whole c.n (λ j. weight_of c cols at j * slice_index (column_at cols (slice_index at j)).comp i))
    ∙ sum-same c.n (λ j. pos (weight_of c cols at j * slice_index (column_at cols (slice_index at j)).comp i)) (λ j. amount c.n (system cols at) (feed_of c) j *ℤ system cols at j i)
    (λ j g. sym (natural_product (amount c.n (system cols at) (feed_of c) j) (slice_index (column_at cols (slice_index at j)).comp i) (basis.feeds j g)))
    ∙ amounts_make c.n c.some c.few (system cols at) (feed_of c) i h)

turn : (w s z : ℕ) → w * (s * z) ≡ z * (w * s)
turn w s z = omega arith

pub basis_split_adds_up : (c : Case) (cols : List Column) (at : List ℕ) (s : Split) → IsBasis c cols at → IsBasisSplit c cols at s → AddsUp c (division_of s)
basis_split_adds_up c cols at s basis split i h =
    rw (split.sum, split.phases, phases_parts c cols at c.n i h (omega (arith, h, c.few)), weights_make c cols at basis i h) (turn c.total (size c.n (system cols at)) (feed c i))

-- ---- what a split keeps
length_more : (fs : List Phase) (f : Phase) (b : Bool) → length (fs ++ (if b then [] else (f ∷ []))) ≤ length fs + 1
length_more fs f true = rw (append-nil fs) (omega arith)
length_more fs f false = rw (length-append fs (f ∷ [])) (omega arith)

pub phases_few : (c : Case) (cols : List Column) (at : List ℕ) (k : ℕ) → length (phases_below c cols at k) ≤ k
unfolding phases_below
phases_few c cols at zero = omega arith
phases_few c cols at (suc k) =
    omega (arith, length_more (phases_below c cols at k) (weighted_phase c.n (weight_of c cols at k) (column_at cols (slice_index at k))) (nat_eq (weight_of c cols at k) 0), phases_few c cols at k)

-- a test that each phase passes
all_more : (p : Phase → Bool) (fs : List Phase) (f : Phase) (b : Bool) → IsTrue (list_all p fs) → (b ≡ false → IsTrue (p f)) → IsTrue (list_all p (fs ++ (if b then [] else (f ∷ []))))
all_more p fs f true all one = rw (append-nil fs) all
all_more p fs f false all one = rw (list_all-append p fs (f ∷ [])) (both (list_all p fs) (p f) all (one refl))
  where
    both : (a b : Bool) → IsTrue a → IsTrue b → IsTrue (a && (b && true))
    both true true h k = refl
    both true false h k = k
    both false b h k = h

pub phases_pass : (p : Phase → Bool) (c : Case) (cols : List Column) (at : List ℕ) (k : ℕ) →
    ((j : ℕ) → j < k → nat_eq (weight_of c cols at j) 0 ≡ false → IsTrue (p (weighted_phase c.n (weight_of c cols at j) (column_at cols (slice_index at j))))) → IsTrue (list_all p (phases_below c cols at k))
unfolding phases_below
phases_pass p c cols at zero h = refl
phases_pass p c cols at (suc k) h =
    all_more p (phases_below c cols at k) (weighted_phase c.n (weight_of c cols at k) (column_at cols (slice_index at k))) (nat_eq (weight_of c cols at k) 0) (phases_pass p c cols at k (λ j g. h j (omega (arith, g)))) (h k (omega arith))

-- there is a phase
some_phase : (fs : List Phase) (i t : ℕ) → parts_in (map state_of fs) i ≡ t → 0 < t → 1 ≤ length fs
some_phase [] i t e h = absurd (omega (arith, e, h))
some_phase (f ∷ fs) i t e h = omega arith

pub phases_some : (c : Case) (cols : List Column) (at : List ℕ) → IsBasis c cols at → 0 < size c.n (system cols at) → 1 ≤ feed c 0 → 1 ≤ length (phases_below c cols at c.n)
phases_some c cols at basis spans live =
    some_phase (phases_below c cols at c.n) 0 (size c.n (system cols at) * feed c 0)
    (phases_parts c cols at c.n 0 (omega (arith, c.some)) (omega arith) ∙ weights_make c cols at basis 0 (omega (arith, c.some))) (mul-pos spans (omega (arith, live)))

-- ---- parts and packings of a phase
live_part_small : (n w : ℕ) (x : List ℕ) (i : ℕ) (b : Bool) → nat_lt i n ≡ b → w ≤ 2 ^ 80 → sum_below n (slice_index x) ≡ 2 ^ 20 → live_part n w x i < 2 ^ 104
live_part_small n w x i true e h light =
    rw e (omega (arith, mul-le-mul h (le_light (le-sum_below n i (slice_index x) (ltb-true i n e)) light)))
  where
    le_light : slice_index x i ≤ sum_below n (slice_index x) → sum_below n (slice_index x) ≡ 2 ^ 20 → slice_index x i ≤ 2 ^ 20
    le_light h e = omega (arith, h, e)
live_part_small n w x i false e h light = rw e (omega arith)

parts_sum : (n : ℕ) → 1 ≤ n → n ≤ 4 → (w : ℕ) (x : List ℕ) →
    sum_below 4 (slice_index (live_part n w x 0 ∷ live_part n w x 1 ∷ live_part n w x 2 ∷ live_part n w x 3 ∷ [])) ≡ w * sum_below n (slice_index x)
parts_sum n low high w x =
    by_count (λ n. sum_below 4 (slice_index (live_part n w x 0 ∷ live_part n w x 1 ∷ live_part n w x 2 ∷ live_part n w x 3 ∷ [])) ≡ w * sum_below n (slice_index x))
    (omega arith) (omega arith) (omega arith) (omega arith) n low high

both_tests : (a b : Bool) → IsTrue a → IsTrue b → IsTrue (a && b)
both_tests true b h k = k
both_tests false b h k = h

pub some_weight : (w : ℕ) → nat_eq w 0 ≡ false → 0 < w
some_weight w h = grind (arith, nat_tests)

pub phase_has_parts : (n : ℕ) → 1 ≤ n → n ≤ 4 → (w : ℕ) (col : Column) → nat_eq w 0 ≡ false → w ≤ 2 ^ 80 → sum_below n (slice_index col.comp) ≡ 2 ^ 20 →
    IsTrue (are_parts (weighted_phase n w col).parts)
phase_has_parts n low high w col some h light =
    let x = col.comp in
    let parts = (weighted_phase n w col).parts in
    both_tests (all_below 4 (λ i. nat_lt (slice_index parts i) (2 ^ 104))) (nat_le 1 (sum_below 4 (slice_index parts)))
    (all_below-from 4 (λ i. nat_lt (slice_index parts i) (2 ^ 104))
    (by_place (λ i. IsTrue (nat_lt (slice_index parts i) (2 ^ 104)))
    (lt-ltb _ _ (live_part_small n w x 0 (nat_lt 0 n) refl h light)) (lt-ltb _ _ (live_part_small n w x 1 (nat_lt 1 n) refl h light))
    (lt-ltb _ _ (live_part_small n w x 2 (nat_lt 2 n) refl h light)) (lt-ltb _ _ (live_part_small n w x 3 (nat_lt 3 n) refl h light))))
    (le-leb _ _ (enough (parts_sum n low high w x)))
  where
    enough : sum_below 4 (slice_index (weighted_phase n w col).parts) ≡ w * sum_below n (slice_index col.comp) → 1 ≤ sum_below 4 (slice_index (weighted_phase n w col).parts)
    enough e = omega (arith, e, rw light at e, some_weight w some)

pub phase_has_packing : (y : ℕ) → 1 ≤ y → y < 2 ^ 40 → IsTrue (is_packing y)
phase_has_packing y h k = both_tests (nat_le 1 y) (nat_lt y (2 ^ 40)) (le-leb _ _ h) (lt-ltb _ _ k)

pub phases_more : (c : Case) (cols : List Column) (at : List ℕ) (k : ℕ) →
    phases_below c cols at (k + 1) ≡ phases_below c cols at k ++ weighted_phases c.n (weight_of c cols at k) (column_at cols (slice_index at k))
unfolding phases_below
phases_more c cols at k = let e : k + 1 ≡ suc k = omega arith in rw e refl

-- ---- from the amounts of a frame
pub weight_read : (c : Case) (cols : List Column) (at : List ℕ) (u : List ℤ) (k : ℕ) → IsTrue (is_each_below 4 u (2 ^ 80 + 1)) → k < 4 →
    entry u k ≡ amount c.n (system cols at) (feed_of c) k → weight_of c cols at k ≤ 2 ^ 80
weight_read c cols at u k small h e = rw (← e) (omega (arith, entry_small u (2 ^ 80 + 1) k h small))

pub sum_small : (total s : ℕ) → total ≤ 2 ^ 20 → s ≤ 2 ^ 80 → total * s ≤ 2 ^ 100
sum_small total s h k = mul-le-mul h k

module _ (c : Case) (cols : List Column) (at : List ℕ) (good : AreColumns c.n cols) (basis : IsBasis c cols at) (small : (k : ℕ) → k < c.n → weight_of c cols at k ≤ 2 ^ 80) where
  pub phases_parted : IsTrue (list_all (λ (f : Phase). are_parts f.parts) (phases_below c cols at c.n))
  phases_parted =
      phases_pass (λ (f : Phase). are_parts f.parts) c cols at c.n
      (λ j h some. phase_has_parts c.n c.some c.few (weight_of c cols at j) (column_at cols (slice_index at j)) some (small j h) (good.points (slice_index at j) (basis.inside j h)).whole)

  pub phases_packed : IsTrue (list_all (λ (f : Phase). is_packing f.packing) (phases_below c cols at c.n))
  phases_packed =
      phases_pass (λ (f : Phase). is_packing f.packing) c cols at c.n
      (λ j h some. phase_has_packing (column_at cols (slice_index at j)).packing (good.points (slice_index at j) (basis.inside j h)).not_empty (good.points (slice_index at j) (basis.inside j h)).not_full)

pub phases_none : (c : Case) (cols : List Column) (at : List ℕ) → phases_below c cols at 0 ≡ []
unfolding phases_below
phases_none c cols at = refl

pub sum_fits : (total s : ℕ) → total ≤ 2 ^ 20 → s ≤ 2 ^ 80 → total * s < 2 ^ 128
sum_fits total s h k = omega (arith, sum_small total s h k)

-- ---- the phases are states
pub live_parts_sum : (n : ℕ) → 1 ≤ n → n ≤ 4 → (w : ℕ) (x : List ℕ) →
    sum_below n (slice_index (live_part n w x 0 ∷ live_part n w x 1 ∷ live_part n w x 2 ∷ live_part n w x 3 ∷ [])) ≡ w * sum_below n (slice_index x)
live_parts_sum n low high w x =
    by_count (λ n. sum_below n (slice_index (live_part n w x 0 ∷ live_part n w x 1 ∷ live_part n w x 2 ∷ live_part n w x 3 ∷ [])) ≡ w * sum_below n (slice_index x))
    (omega arith) (omega arith) (omega arith) (omega arith) n low high

has_moles : (n : ℕ) → 1 ≤ n → n ≤ 4 → (w : ℕ) (col : Column) → nat_eq w 0 ≡ false → sum_below n (slice_index col.comp) ≡ 2 ^ 20 →
    IsTrue (nat_lt 0 (sum_below n (slice_index (weighted_phase n w col).parts)))
has_moles n low high w col some light =
    let e = rw light at (live_parts_sum n low high w col.comp) in
    lt-ltb _ _ (omega (arith, e, some_weight w some))

phases_are_states : (c : Case) (cols : List Column) (at : List ℕ) → AreColumns c.n cols → IsBasis c cols at → All (IsState c.n) (map state_of (phases_below c cols at c.n))
phases_are_states c cols at good basis =
    let fs = phases_below c cols at c.n in
    let point = λ (j : ℕ) (h : j < c.n). good.points (slice_index at j) (basis.inside j h) in
    let packed = phases_pass (λ (f : Phase). is_packing f.packing) c cols at c.n (λ j h some. phase_has_packing (column_at cols (slice_index at j)).packing (point j h).not_empty (point j h).not_full) in
    let parted = phases_pass (λ (f : Phase). nat_lt 0 (sum_below c.n (slice_index f.parts))) c cols at c.n
    (λ j h some. has_moles c.n c.some c.few (weight_of c cols at j) (column_at cols (slice_index at j)) some (point j h).whole) in
    All-map (IsState c.n) state_of fs (λ (k : ℕ) (d : Phase) (l : k < length fs).
    state_of-is_state c.n (get_or fs k d) (AllPass-from_list_all (λ (f : Phase). is_packing f.packing) fs packed k d l)
    (ltb-true _ _ (AllPass-from_list_all (λ (f : Phase). nat_lt 0 (sum_below c.n (slice_index f.parts))) fs parted k d l)))

pub basis_split_divides : (c : Case) (cols : List Column) (at : List ℕ) (s : Split) → AreColumns c.n cols → IsBasis c cols at → IsBasisSplit c cols at s → Divides c (division_of s)
basis_split_divides c cols at s good basis split = record {
  positive = rw split.sum (mul-pos (total_positive c) (spans_above c cols at basis));
  phases = rw split.phases (phases_are_states c cols at good basis);
  adds_up = basis_split_adds_up c cols at s basis split;
}
