-- The upper end of a plane over a box from its terms, and how large it is.
use Rattle.std.proofs.Common.{◌≡◌, IsTrue, nat_lt, ℕ, zero, suc, ◌+◌, ◌-◌, ◌<◌, ◌≤◌, ◌^◌, ℤ, pos, neg_ℤ, ◌+ℤ◌, ◌-ℤ◌, ◌*ℤ◌, ◌≤ℤ◌, refl, arith, lit<, unsigned_abs, slice_index, List}
use Rattle.std.specs.Int.{int_min, int_max}
use Rattle.std.proofs.lemmas.Int.{ints, clamps}
use borrow.Author.Differences.{at_most_in, product_is}
use borrow.Author.Tests.{ltb-true}
use Rattle.log_laws.specs.Linear.{affine_high}
use Rattle.log_laws.specs.Whole.{ceil_div}
use Rattle.log_laws.proofs.Exports.{le_of_mul-le_ℤ, add-mul_ℤ, mul-add_ℤ, mul-le_ℤ, le-ceil_over, ≤ℤ_trans, sum_below-fewer, all_below-at}
use Rattle.case_types.specs.Arithmetic.Bounds.{Box, one, potential, plane_high}
use Rattle.case_types.specs.Ranges.{is_each_below}
use Rattle.log_laws.specs.Sums.{sum_below, greatest_below, int_sum_below}
use Rattle.case_types.proofs.Exports.{sums_ordered}

-- the upper end from the greatest potential and from the last one with the rises of the others
pub plane_is : (n : ℕ) (lam : List ℤ) (x : Box) (g c : ℤ) → g ≡ greatest_below n (potential lam) (potential lam 0) →
    c ≡ affine_high (n - 1) (potential lam (n - 1)) (λ i. potential lam i -ℤ potential lam (n - 1)) (slice_index x.lo) (slice_index x.hi) → int_min g c ≡ plane_high n lam x
unfolding plane_high
plane_is n lam x g c eg ec = rw (eg, ec) refl

-- ---- how large it is
-- the rises are at least those with the least fractions, of potentials of at least -limit
rises_least : (k : ℕ) (f : ℕ → ℤ) (last : ℤ) (lo hi : ℕ → ℕ) (limit : ℕ) → ((i : ℕ) → i < k → unsigned_abs (f i) ≤ limit) →
    ((neg_ℤ (pos limit) -ℤ last) *ℤ pos (sum_below k lo)) ≤ℤ int_sum_below k (λ i. int_max ((f i -ℤ last) *ℤ pos (lo i)) ((f i -ℤ last) *ℤ pos (hi i)))
unfolding int_sum_below
rises_least zero f last lo hi limit h = at_most_in ((neg_ℤ (pos limit) -ℤ last) *ℤ pos 0) (pos 0) (omega (arith, product_is (neg_ℤ (pos limit) -ℤ last) (pos 0)))
rises_least (suc k) f last lo hi limit h =
    let w = neg_ℤ (pos limit) -ℤ last in
    rw (mul-add_ℤ w (pos (sum_below k lo)) (pos (lo k)))
    (sums_ordered (w *ℤ pos (sum_below k lo)) (int_sum_below k (λ i. int_max ((f i -ℤ last) *ℤ pos (lo i)) ((f i -ℤ last) *ℤ pos (hi i))))
    (w *ℤ pos (lo k)) (int_max ((f k -ℤ last) *ℤ pos (lo k)) ((f k -ℤ last) *ℤ pos (hi k)))
    (rises_least k f last lo hi limit (λ i l. h i (omega (arith, l))))
    (≤ℤ_trans (w *ℤ pos (lo k)) ((f k -ℤ last) *ℤ pos (lo k)) (int_max ((f k -ℤ last) *ℤ pos (lo k)) ((f k -ℤ last) *ℤ pos (hi k)))
    (mul-le_ℤ w (f k -ℤ last) (lo k) (lower (f k) last limit (h k (omega arith))))
    (left_end ((f k -ℤ last) *ℤ pos (lo k)) ((f k -ℤ last) *ℤ pos (hi k)))))
  where
    lower : (z last : ℤ) (limit : ℕ) → unsigned_abs z ≤ limit → (neg_ℤ (pos limit) -ℤ last) ≤ℤ (z -ℤ last)
    lower z last limit h = omega (arith, ints, h)

    left_end : (a b : ℤ) → a ≤ℤ int_max a b
    left_end a b = omega (arith, ints, clamps)

-- with the last potential, where the least fractions add up to at most 1
with_last : (last t : ℤ) (sum limit : ℕ) → unsigned_abs last ≤ limit → sum ≤ one → ((neg_ℤ (pos limit) -ℤ last) *ℤ pos sum) ≤ℤ t →
    (neg_ℤ (pos limit) *ℤ pos one) ≤ℤ (last *ℤ pos one +ℤ t)
with_last last t sum limit h s l = by_rest (one - sum) (omega (arith, s))
  where
    w : ℤ
    w = neg_ℤ (pos limit) -ℤ last

    by_rest : (d : ℕ) → sum + d ≡ one → (neg_ℤ (pos limit) *ℤ pos one) ≤ℤ (last *ℤ pos one +ℤ t)
    by_rest d e =
        let whole : w *ℤ pos one ≡ w *ℤ pos sum +ℤ w *ℤ pos d = rw (← e) (mul-add_ℤ w (pos sum) (pos d)) in
        let falls : (w *ℤ pos d) ≤ℤ pos 0 = let q = mul-le_ℤ w (pos 0) d (omega (arith, ints, h)) in omega (arith, ints, q) in
        let both : (last +ℤ w) *ℤ pos one ≡ last *ℤ pos one +ℤ w *ℤ pos one = add-mul_ℤ last w (pos one) in
        let is : last +ℤ w ≡ neg_ℤ (pos limit) = omega (arith, ints) in
        combined (neg_ℤ (pos limit) *ℤ pos one) (last *ℤ pos one) (w *ℤ pos one) (w *ℤ pos sum) (w *ℤ pos d) (rw is at both) whole falls l
      where
        combined : (a b c e v : ℤ) → a ≡ b +ℤ c → c ≡ e +ℤ v → v ≤ℤ pos 0 → e ≤ℤ t → a ≤ℤ (b +ℤ t)
        combined a b c e v f g h k = omega (arith, ints, f, g, h, k)

-- the upper end is at least -limit, as every potential is
pub plane_least : (k : ℕ) (f : ℕ → ℤ) (last : ℤ) (lo hi : ℕ → ℕ) (limit : ℕ) → ((i : ℕ) → i < k → unsigned_abs (f i) ≤ limit) → unsigned_abs last ≤ limit →
    sum_below k lo ≤ one →
    neg_ℤ (pos limit) ≤ℤ ceil_div (last *ℤ pos one +ℤ int_sum_below k (λ i. int_max ((f i -ℤ last) *ℤ pos (lo i)) ((f i -ℤ last) *ℤ pos (hi i)))) (pos one)
plane_least k f last lo hi limit each small whole =
    let t = int_sum_below k (λ i. int_max ((f i -ℤ last) *ℤ pos (lo i)) ((f i -ℤ last) *ℤ pos (hi i))) in
    let c = ceil_div (last *ℤ pos one +ℤ t) (pos one) in
    le_of_mul-le_ℤ (neg_ℤ (pos limit)) c one (lit< tt)
    (≤ℤ_trans (neg_ℤ (pos limit) *ℤ pos one) (last *ℤ pos one +ℤ t) (c *ℤ pos one)
    (with_last last t (sum_below k lo) limit small whole (rises_least k f last lo hi limit each))
    (le-ceil_over (last *ℤ pos one +ℤ t) one (lit< tt)))

-- each potential is small
pub each_small : (n : ℕ) (lam : List ℤ) (limit : ℕ) → IsTrue (is_each_below n lam limit) → (i : ℕ) → i < n → unsigned_abs (potential lam i) < limit
each_small n lam limit h i l =
    ltb-true (unsigned_abs (potential lam i)) limit (all_below-at n (λ i. nat_lt (unsigned_abs (potential lam i)) limit) i l h)

-- a plane of small potentials is small over a box whose least fractions add up to at most 1
pub plane_small : (n : ℕ) (lam : List ℤ) (x : Box) (g c : ℤ) → 1 ≤ n → n ≤ 4 → IsTrue (is_each_below 4 lam (2 ^ 80)) → sum_below 4 (slice_index x.lo) ≤ one →
    unsigned_abs g < 2 ^ 80 →
    c ≡ affine_high (n - 1) (potential lam (n - 1)) (λ i. potential lam i -ℤ potential lam (n - 1)) (slice_index x.lo) (slice_index x.hi) → unsigned_abs (int_min g c) < 2 ^ 80
plane_small n lam x g c some few small whole most e =
    let each : (i : ℕ) → i < 4 → unsigned_abs (potential lam i) ≤ 2 ^ 80 - 1 = λ i l. let q = each_small 4 lam (2 ^ 80) small i l in omega (arith, q) in
    let least = plane_least (n - 1) (potential lam) (potential lam (n - 1)) (slice_index x.lo) (slice_index x.hi) (2 ^ 80 - 1)
    (λ i l. each i (omega (arith, l, few))) (each (n - 1) (omega (arith, some, few))) (let q = sum_below-fewer (n - 1) 4 (slice_index x.lo) (omega (arith, few)) in omega (arith, q, whole)) in
    lesser g c most (rw (← e) at least)
  where
    lesser : (g c : ℤ) → unsigned_abs g < 2 ^ 80 → neg_ℤ (pos (2 ^ 80 - 1)) ≤ℤ c → unsigned_abs (int_min g c) < 2 ^ 80
    lesser g c h k = omega (arith, ints, clamps, h, k)
