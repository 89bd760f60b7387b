-- Numbers of 128 bits that are read back, and sums of products of small numbers.
use Rattle.std.proofs.Common.{◌≡◌, ℕ, ◌*◌, ◌^◌, ◌<◌, ◌≤◌, true, false, IsTrue, List, [], ◌∷◌, ℤ, pos, ◌-ℤ◌, ◌*ℤ◌, neg_ℤ, ◌<ℤ◌, ◌≤ℤ◌, arith, unsigned_abs, slice_index_or, FitsSigned, to_z, of_z}
use Rattle.std.specs.Prelude.{nat_lt}
use lib.Signed.{lt_z, le_z}
use Rattle.std.specs.Int.{w64, w128}
use Rattle.std.proofs.lemmas.Int.{ints, to_z-of_z, fits_signed_from_abs, unsigned_abs-mul}
use Rattle.std.proofs.lemmas.Bool.{lt-ltb, ltb-true}
use Rattle.std.proofs.Math.Nat.{mul-le-mul}
use Rattle.log_laws.proofs.Exports.{all_below-at, all_below-from}
use Rattle.exact_lp.proofs.DeterminantRules.{by_place}
use Rattle.case_types.specs.Ranges.{is_each_below}

pub read : (z : ℤ) → FitsSigned w128 z → to_z w128 (of_z w128 z) ≡ z
read z f = to_z-of_z w128 z f

pub entry_small : (a : List ℤ) (limit i : ℕ) → i < 4 → IsTrue (is_each_below 4 a limit) → unsigned_abs (slice_index_or a i (pos 0)) < limit
entry_small a limit i h t =
    ltb-true _ _ (all_below-at 4 (λ i. nat_lt (unsigned_abs (slice_index_or a i (pos 0))) limit) i h t)

same : (x : ℕ) → x ≤ x
same x = omega arith

pub product_small : (a x limit : ℕ) → a ≤ limit → a * x ≤ limit * x
product_small a x limit h = mul-le-mul h (same x)

pub four_small : (a b c d : ℤ) (limit : ℕ) → unsigned_abs a < limit → unsigned_abs b < limit → unsigned_abs c < limit → unsigned_abs d < limit →
    IsTrue (is_each_below 4 (a ∷ b ∷ c ∷ d ∷ []) limit)
four_small a b c d limit h k l m =
    all_below-from 4 (λ i. nat_lt (unsigned_abs (slice_index_or (a ∷ b ∷ c ∷ d ∷ []) i (pos 0))) limit)
    (by_place (λ i. IsTrue (nat_lt (unsigned_abs (slice_index_or (a ∷ b ∷ c ∷ d ∷ []) i (pos 0))) limit)) (lt-ltb _ _ h) (lt-ltb _ _ k) (lt-ltb _ _ l) (lt-ltb _ _ m))

pub neg_small : (z : ℤ) (limit : ℕ) → unsigned_abs z < limit → unsigned_abs (neg_ℤ z) < limit
neg_small z limit h = omega (arith, ints)

pub cost_read : (z : ℤ) → unsigned_abs z ≤ 2 ^ 39 → to_z w128 (of_z w128 (to_z w64 (of_z w64 z))) ≡ z
cost_read z h = omega (arith, ints)

pub size_read : (s : ℕ) → s ≤ 2 ^ 80 → to_z w128 s ≡ pos s
size_read s h = omega (arith, ints)

pub costly : (a c : ℤ) → unsigned_abs a ≤ 2 ^ 80 → unsigned_abs c ≤ 2 ^ 39 → unsigned_abs (a *ℤ c) ≤ 2 ^ 119
costly a c h k = rw (unsigned_abs-mul a c) (mul-le-mul h k)

pub costly_fits : (a c : ℤ) → unsigned_abs a ≤ 2 ^ 80 → unsigned_abs c ≤ 2 ^ 39 → FitsSigned w128 (a *ℤ c)
costly_fits a c h k = fits_signed_from_abs w128 (a *ℤ c) (omega (arith, costly a c h k))

-- the two answers of a test for a negative number
test_down : (z : ℤ) → lt_z z (pos 0) ≡ true → z <ℤ pos 0
test_down z h = grind (arith, ints)

test_up : (z : ℤ) → lt_z z (pos 0) ≡ false → pos 0 ≤ℤ z
test_up z h = grind (arith, ints)

pub negative_by : (z : ℤ) → FitsSigned w128 z → lt_z (to_z w128 (of_z w128 z)) (pos 0) ≡ true → z <ℤ pos 0
negative_by z f h = test_down z (rw (read z f) at h)

pub not_negative_by : (z : ℤ) → FitsSigned w128 z → lt_z (to_z w128 (of_z w128 z)) (pos 0) ≡ false → pos 0 ≤ℤ z
not_negative_by z f h = test_up z (rw (read z f) at h)

-- the two answers of a test for a number that isn't positive
le_down : (z : ℤ) → le_z z (pos 0) ≡ true → z ≤ℤ pos 0
le_down z h = grind (arith, ints)

le_up : (z : ℤ) → le_z z (pos 0) ≡ false → pos 0 <ℤ z
le_up z h = grind (arith, ints)

pub not_positive_by : (z : ℤ) → FitsSigned w128 z → le_z (to_z w128 (of_z w128 z)) (pos 0) ≡ true → z ≤ℤ pos 0
not_positive_by z f h = le_down z (rw (read z f) at h)

pub positive_by : (z : ℤ) → FitsSigned w128 z → le_z (to_z w128 (of_z w128 z)) (pos 0) ≡ false → pos 0 <ℤ z
positive_by z f h = le_up z (rw (read z f) at h)

pub entry_fits : (a : List ℤ) (limit i : ℕ) → limit ≤ 2 ^ 127 → i < 4 → IsTrue (is_each_below 4 a limit) → FitsSigned w128 (slice_index_or a i (pos 0))
entry_fits a limit i h g t = fits_signed_from_abs w128 (slice_index_or a i (pos 0)) (omega (arith, h, entry_small a limit i g t))

pub shifted : (q k : ℕ) → q ≤ 2 ^ 72 → k ≤ 2 ^ 72 → to_z w128 (of_z w128 (to_z w128 q -ℤ pos k)) ≡ pos q -ℤ pos k
shifted q k h g = rw (size_read q (omega (arith, h))) (read (pos q -ℤ pos k) (fits_signed_from_abs w128 (pos q -ℤ pos k) (omega (arith, ints, h, g))))
