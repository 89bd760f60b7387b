-- What each live component keeps.
use Rattle.std.proofs.Common.{ℕ, ◌+◌, ◌*◌, ◌<◌, ◌≤◌, ◌^◌, ◌≡◌, IsTrue, slice_index, arith, ℤ, ◌+ℤ◌, to_z, of_z, unsigned_abs}
use Rattle.std.specs.Int.{w128}
use Rattle.std.specs.Prelude.{List}
use Rattle.std.proofs.lemmas.Bool.{leb-true}
use Rattle.std.proofs.lemmas.Int.{ints}
use Rattle.log_laws.specs.Sums.{int_sum_below}
use Rattle.log_laws.proofs.Exports.{all_below-at, and_true, le-sum_below, back, sum-next}
use Rattle.case_types.specs.declared.cases.Case.{Case}
use Rattle.rachford_rice.specs.Sum.{are_ratios}

pub part_small : (c : Case) (i : ℕ) → i < c.n → slice_index c.z i ≤ 2 ^ 20
part_small c i h =
    let one = le-sum_below c.n i (slice_index c.z) h in
    let all = c.added in
    let most = c.total_high in
    omega (arith, one, all, most)

pub ratio_some : (n : ℕ) (k : List ℕ) (i : ℕ) → i < n → IsTrue (are_ratios n k) → 1 ≤ slice_index k i
ratio_some n k i h t = leb-true 1 (slice_index k i) (and_true _ _ (all_below-at n _ i h t)).0

pub ratio_most : (n : ℕ) (k : List ℕ) (i : ℕ) → i < n → IsTrue (are_ratios n k) → slice_index k i ≤ 2 ^ 52
ratio_most n k i h t = leb-true (slice_index k i) (2 ^ 52) (and_true _ _ (all_below-at n _ i h t)).1

-- the sum so far and one term more
pub record IsSumSoFar (i : ℕ) (f : ℕ → ℤ) (s : ℤ) : Type 0 where
  pub value : s ≡ int_sum_below i f
  pub small : unsigned_abs s ≤ i * 2 ^ 112

pub one_more : (i : ℕ) (f : ℕ → ℤ) (s t : ℤ) → i < 4 → IsSumSoFar i f s → t ≡ f i → unsigned_abs t ≤ 2 ^ 112 →
    IsSumSoFar (i + 1) f (to_z w128 (of_z w128 (s +ℤ to_z w128 (of_z w128 t))))
one_more i f s t few h e small =
    let so_far = h.small in
    let t_is = back t (omega (arith, small)) in
    let sized : unsigned_abs (s +ℤ t) ≤ (i + 1) * 2 ^ 112 = omega (arith, ints, so_far, small) in
    let whole = back (s +ℤ t) (omega (arith, sized, few)) in
    rw (t_is, whole) (record { value = sum-next i f s t h.value e; small = sized })
