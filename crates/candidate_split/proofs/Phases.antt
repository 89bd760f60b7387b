-- The phases of a split that divides the feed, and parts that settle.
use Rattle.std.proofs.Common.{ℕ, true, ◌≡◌, ◌<◌, ◌≤◌, ◌*◌, ◌^◌, List, length, slice_index, slice_index_or, subst, arith}
use Rattle.std.specs.Prelude.{nat_lt, nat_le}
use Rattle.std.proofs.Math.ListN.{get_or-map, length-map}
use Rattle.std.proofs.lemmas.Bool.{ltb-true, leb-true}
use Rattle.std.proofs.lemmas.List.Sums.{AllPass-from_list_all}
use Rattle.log_laws.specs.Sums.{all_below, sum_below}
use Rattle.log_laws.proofs.Exports.{all_below-at, and_true, le-sum_below, sum_below-fewer, sum_below-scaled_same}
use Rattle.case_types.specs.declared.cases.Case.{Case}
use Rattle.case_types.specs.declared.phases.Phase.{Phase}
use Rattle.case_types.specs.declared.phases.Split.{Split}
use Rattle.case_types.specs.Ranges.{are_parts, is_packing}
use Rattle.case_types.specs.Energy.Divisions.{Divides, IsState, division_of, state_of}
use Rattle.candidate_split.specs.Phases.{IsCounted}

few_parts_of : (n : ℕ) (parts : List ℕ) → n ≤ 4 → are_parts parts ≡ true → sum_below n (slice_index parts) < 2 ^ 106
few_parts_of n parts few is =
    let each = (and_true (all_below 4 (λ i. nat_lt (slice_index parts i) (2 ^ 104))) (nat_le 1 (sum_below 4 (slice_index parts))) is).0 in
    let at : (i : ℕ) → i < 4 → slice_index parts i < 2 ^ 104 =
    λ i h. ltb-true (slice_index parts i) (2 ^ 104) (all_below-at 4 (λ i. nat_lt (slice_index parts i) (2 ^ 104)) i h each) in
    omega (arith, sum_below-fewer n 4 (slice_index parts) few, at 0 (omega arith), at 1 (omega arith), at 2 (omega arith), at 3 (omega arith))

pub phase_at : (c : Case) (s : Split) (k : ℕ) (d : Phase) → Divides c (division_of s) → k < length s.phases.items → IsCounted c.n (slice_index_or s.phases.items k d)
phase_at c s k d h l =
    let state : IsState c.n (state_of (slice_index_or s.phases.items k d)) =
    subst (IsState c.n) (get_or-map state_of s.phases.items k d) (h.phases k (state_of d) (rw length-map l)) in
    let parts = AllPass-from_list_all (λ (f : Phase). are_parts f.parts) s.phases.items s.parted k d l in
    let packing = AllPass-from_list_all (λ (f : Phase). is_packing f.packing) s.phases.items s.packed k d l in
    let y = (slice_index_or s.phases.items k d).packing in
    let both = and_true (nat_le 1 y) (nat_lt y (2 ^ 40)) packing in
    record {
      some = state.some;
      small = few_parts_of c.n (slice_index_or s.phases.items k d).parts c.few parts;
      packed = leb-true 1 y both.0;
      not_full = ltb-true y (2 ^ 40) both.1;
    }

-- ---- parts that are each small
pub sum_some : (n : ℕ) (parts : List ℕ) → 1 ≤ n → ((i : ℕ) → i < n → 1 ≤ slice_index parts i) → 1 ≤ sum_below n (slice_index parts)
sum_some n parts one live = omega (arith, live 0 (omega (arith, one)), le-sum_below n 0 (slice_index parts) (omega (arith, one)))

pub sum_small : (n m : ℕ) (parts : List ℕ) → n ≤ 4 → m ≤ 2 ^ 100 → ((i : ℕ) → i < 4 → slice_index parts i ≤ m) → sum_below n (slice_index parts) < 2 ^ 106
sum_small n m parts four small each =
    omega (arith, sum_below-fewer n 4 (slice_index parts) four, small, each 0 (omega arith), each 1 (omega arith), each 2 (omega arith), each 3 (omega arith))

-- parts that are the same
pub same_sum : (n : ℕ) (parts others : List ℕ) → n ≤ 4 → ((i : ℕ) → i < 4 → slice_index parts i ≡ slice_index others i) →
    sum_below n (slice_index parts) ≡ sum_below n (slice_index others)
same_sum n parts others four same =
    let e = sum_below-scaled_same n 1 1 (slice_index parts) (slice_index others) (λ i h. once (same i (omega (arith, h, four)))) in
    omega (arith, e)
  where
    once : {a b : ℕ} → a ≡ b → 1 * a ≡ b * 1
    once e = omega (arith, e)
