-- The plain low of a cell isn't far below 0.
use Rattle.std.proofs.Common.{◌≡◌, ℕ, zero, suc, ◌+◌, ◌-◌, ◌*◌, ◌^◌, ◌<◌, ◌≤◌, ◌==◌, Bool, true, false, None, ℤ, pos, negsuc, neg_ℤ, ◌+ℤ◌, ◌-ℤ◌, ◌*ℤ◌, ◌≤ℤ◌, unsigned_abs, slice_index, ap, sym, subst, arith, lit<}
use Rattle.std.specs.Prelude.{if◌then◌else◌, int_le}
use Rattle.std.specs.Int.{int_min}
use Rattle.std.proofs.Math.Nat.{mul-le-mul}
use Rattle.std.proofs.lemmas.Int.{ints, clamps}
use borrow.Author.Differences.{product_is}
use Rattle.log_laws.specs.Between.{Ends}
use Rattle.log_laws.specs.Sums.{greatest_below, int_sum_below}
use Rattle.log_laws.specs.Squaring.{log_down, log_up}
use Rattle.log_laws.specs.Whole.{floor_div, ceil_div}
use Rattle.log_laws.proofs.Exports.{≤ℤ_trans}
use Rattle.case_types.specs.declared.cases.Case.{Case}
use Rattle.case_types.specs.Arithmetic.Bounds.{Box, one, mixing_low, volume_low, volume_down, flat_packing, covolume_range, covolume_scale, lambda_up, ratio_high, attraction_high, attraction_term_high, energy_low, stretched_up}
use Rattle.case_types.specs.Arithmetic.Faults.{fault_of}
use Rattle.case_types.specs.Arithmetic.Numbers.{Numbers, numbers_of}
use Rattle.case_types.specs.Arithmetic.Tables.{ends_of_pair}
use Rattle.pr_params.proofs.Exports.{e_lo_is, e_hi_is, two_exact, range_least, count_of}
use Rattle.pr_params.proofs.AcceptedSizes.{attraction_least}
use Rattle.pr_params.proofs.InOrder.{attraction_in_order, rho_most}
use Rattle.answer_sizes.proofs.Rounding.{floor_least, floor_positive, ceiling_most, ceiling_positive}
use Rattle.answer_sizes.proofs.LogSizes.{log_down_least, log_up_most}

-- ---- the mixing terms
-- a number that isn't negative times one that is at least this
times_least : (a m : ℕ) (l : ℤ) (limit : ℕ) → a ≤ m → neg_ℤ (pos limit) ≤ℤ l → neg_ℤ (pos (m * limit)) ≤ℤ (pos a *ℤ l)
times_least a m (pos k) limit h low = above (a * k) (m * limit)
  where
    above : (x y : ℕ) → neg_ℤ (pos y) ≤ℤ pos x
    above x y = omega (arith, ints)
times_least a m (negsuc k) limit h low = omega (arith, ints, product_is (pos a) (negsuc k), mul-le-mul h (no_more low))
  where
    no_more : neg_ℤ (pos limit) ≤ℤ negsuc k → suc k ≤ limit
    no_more h = omega (arith, ints, h)

mixing_least : (c : Case) (a b : ℕ) → a ≤ 2 ^ 40 → b ≤ 2 ^ 40 → neg_ℤ (pos (2 ^ 46)) ≤ℤ mixing_low (numbers_of c) a b
unfolding mixing_low
mixing_least c a b ha hb = by_test (b == 0)
  where
    l : ℤ
    l = log_down b 40

    low : neg_ℤ (pos (40 * 2 ^ 40)) ≤ℤ l
    low = log_down_least b 40

    first : neg_ℤ (pos (2 ^ 46)) ≤ℤ floor_div (pos b *ℤ l) (pos one)
    first = floor_least (pos b *ℤ l) (2 ^ 40) (2 ^ 46) (lit< tt) (let k = times_least b (2 ^ 40) l (40 * 2 ^ 40) hb low in wider (pos b *ℤ l) k)
      where
        wider : (z : ℤ) → neg_ℤ (pos (2 ^ 40 * (40 * 2 ^ 40))) ≤ℤ z → neg_ℤ (pos (2 ^ 46 * 2 ^ 40)) ≤ℤ z
        wider z h = omega (arith, ints, h)

    push : (pos 1586260020565 *ℤ (pos b -ℤ pos a)) ≤ℤ pos (2 ^ 41 * 2 ^ 40)
    push = apart a b ha hb
      where
        apart : (a b : ℕ) → a ≤ 2 ^ 40 → b ≤ 2 ^ 40 → (pos 1586260020565 *ℤ (pos b -ℤ pos a)) ≤ℤ pos (2 ^ 41 * 2 ^ 40)
        apart a b h k = omega (arith, ints, h, k)

    second : neg_ℤ (pos (2 ^ 46)) ≤ℤ floor_div (pos a *ℤ l -ℤ (numbers_of c).log_e.hi *ℤ (pos b -ℤ pos a)) (pos one)
    second =
        rw (← e_hi_is c)
        (floor_least (pos a *ℤ l -ℤ pos 1586260020565 *ℤ (pos b -ℤ pos a)) (2 ^ 40) (2 ^ 46) (lit< tt)
        (wider (pos a *ℤ l) (pos 1586260020565 *ℤ (pos b -ℤ pos a)) (times_least a (2 ^ 40) l (40 * 2 ^ 40) ha low) push))
      where
        wider : (z p : ℤ) → neg_ℤ (pos (2 ^ 40 * (40 * 2 ^ 40))) ≤ℤ z → p ≤ℤ pos (2 ^ 41 * 2 ^ 40) → neg_ℤ (pos (2 ^ 46 * 2 ^ 40)) ≤ℤ (z -ℤ p)
        wider z p h k = omega (arith, ints, h, k)

    lesser : (x y m : ℤ) → m ≤ℤ x → m ≤ℤ y → m ≤ℤ int_min x y
    lesser x y m h k = omega (arith, ints, clamps, h, k)

    by_test : (t : Bool) → neg_ℤ (pos (2 ^ 46)) ≤ℤ (if t then pos 0 else int_min (floor_div (pos b *ℤ l) (pos one)) (floor_div (pos a *ℤ l -ℤ (numbers_of c).log_e.hi *ℤ (pos b -ℤ pos a)) (pos one)))
    by_test true = omega (arith, ints)
    by_test false = lesser _ _ _ first second

-- of at most four components
sum_least : (n : ℕ) (f : ℕ → ℤ) (limit : ℕ) → ((i : ℕ) → i < n → neg_ℤ (pos limit) ≤ℤ f i) → neg_ℤ (pos (n * limit)) ≤ℤ int_sum_below n f
unfolding int_sum_below
sum_least zero f limit h = omega (arith, ints)
sum_least (suc n) f limit h = joined (int_sum_below n f) (f n) (n * limit) (suc n * limit) (omega arith) (sum_least n f limit (λ i l. h i (omega (arith, l)))) (h n (omega arith))
  where
    joined : (a b : ℤ) (m k : ℕ) → k ≡ m + limit → neg_ℤ (pos m) ≤ℤ a → neg_ℤ (pos limit) ≤ℤ b → neg_ℤ (pos k) ≤ℤ (a +ℤ b)
    joined a b m k e h g = omega (arith, ints, e, h, g)

-- ---- the volume term
volume_least : (c : Case) (b : ℤ) (yl yh : ℕ) → pos (2 ^ 50) ≤ℤ b → neg_ℤ (pos (40 * 2 ^ 40)) ≤ℤ volume_low (numbers_of c) b yl yh
unfolding volume_low volume_down
volume_least c b yl yh some =
    by_tests (int_le ((numbers_of c).log_e.hi *ℤ pos yh *ℤ pos (covolume_scale (numbers_of c))) ((numbers_of c).log_e.lo *ℤ b))
    (int_le ((numbers_of c).log_e.lo *ℤ b) ((numbers_of c).log_e.lo *ℤ pos yl *ℤ pos (covolume_scale (numbers_of c))))
  where
    above : (l x : ℤ) → neg_ℤ (pos (40 * 2 ^ 40)) ≤ℤ l → pos 0 ≤ℤ x → neg_ℤ (pos (40 * 2 ^ 40)) ≤ℤ (l +ℤ x)
    above l x h k = omega (arith, ints, h, k)

    push : pos 0 ≤ℤ ((numbers_of c).log_e.lo *ℤ b)
    push = rw (← e_lo_is c) (natural b some)
      where
        natural : (b : ℤ) → pos (2 ^ 50) ≤ℤ b → pos 0 ≤ℤ (pos 1586259924992 *ℤ b)
        natural b h = omega (arith, ints, h)

    at_packing : (y : ℕ) → neg_ℤ (pos (40 * 2 ^ 40)) ≤ℤ volume_down (numbers_of c) b y
    at_packing y = above (log_down y 40) _ (log_down_least y 40) (floor_positive ((numbers_of c).log_e.lo *ℤ b) (unsigned_abs (pos y *ℤ pos (covolume_scale (numbers_of c)))) push)

    flat : neg_ℤ (pos (40 * 2 ^ 40)) ≤ℤ (log_down (flat_packing (numbers_of c) b) 40 +ℤ (numbers_of c).log_e.lo)
    flat = above (log_down (flat_packing (numbers_of c) b) 40) (numbers_of c).log_e.lo (log_down_least (flat_packing (numbers_of c) b) 40) (rw (← e_lo_is c) (omega (arith, ints)))

    by_tests : (s t : Bool) → neg_ℤ (pos (40 * 2 ^ 40)) ≤ℤ
        (if s then volume_down (numbers_of c) b yh else if t then volume_down (numbers_of c) b yl else (log_down (flat_packing (numbers_of c) b) 40 +ℤ (numbers_of c).log_e.lo))
    by_tests true t = at_packing yh
    by_tests false true = at_packing yl
    by_tests false false = flat

-- ---- the attraction term
sum_positive : (n : ℕ) (f : ℕ → ℤ) → ((i : ℕ) → i < n → pos 0 ≤ℤ f i) → pos 0 ≤ℤ int_sum_below n f
unfolding int_sum_below
sum_positive zero f h = omega (arith, ints)
sum_positive (suc n) f h = joined (int_sum_below n f) (f n) (sum_positive n f (λ i l. h i (omega (arith, l)))) (h n (omega arith))
  where
    joined : (a b : ℤ) → pos 0 ≤ℤ a → pos 0 ≤ℤ b → pos 0 ≤ℤ (a +ℤ b)
    joined a b h k = omega (arith, ints, h, k)

times_positive : (a : ℕ) (z : ℤ) → pos 0 ≤ℤ z → pos 0 ≤ℤ (pos a *ℤ z)
times_positive a (pos n) h = natural (a * n)
  where
    natural : (x : ℕ) → pos 0 ≤ℤ pos x
    natural x = omega (arith, ints)
times_positive a (negsuc n) h = absurd (omega (arith, ints, h))

attraction_positive : (c : Case) (x : Box) → fault_of c ≡ None → pos 0 ≤ℤ attraction_high (numbers_of c) x
attraction_positive c x accepted =
    let p = numbers_of c in
    let inner : (i : ℕ) → i < p.count → pos 0 ≤ℤ int_sum_below p.count (λ j. pos (slice_index x.hi j) *ℤ (ends_of_pair p.attractions i j).hi) =
    λ i h. sum_positive p.count (λ j. pos (slice_index x.hi j) *ℤ (ends_of_pair p.attractions i j).hi)
    (λ j g. times_positive (slice_index x.hi j) (ends_of_pair p.attractions i j).hi (each i j (live i h) (live j g))) in
    ceiling_positive _ (2 ^ 40)
    (sum_positive p.count (λ i. pos (slice_index x.hi i) *ℤ ceil_div (int_sum_below p.count (λ j. pos (slice_index x.hi j) *ℤ (ends_of_pair p.attractions i j).hi)) (pos one))
    (λ i h. times_positive (slice_index x.hi i) _ (ceiling_positive _ (2 ^ 40) (inner i h))))
  where
    live : (i : ℕ) → i < (numbers_of c).count → i < c.n
    live i h = subst (λ (n : ℕ). i < n) (count_of c) h

    each : (i j : ℕ) → i < c.n → j < c.n → pos 0 ≤ℤ (ends_of_pair (numbers_of c).attractions i j).hi
    each i j h g = ≤ℤ_trans _ _ _ (attraction_least c i j accepted h g) (attraction_in_order c i j accepted h g)

-- the greatest ratio is one of 0 and the ratios
first_or_more : (n : ℕ) (f : ℕ → ℤ) → pos 0 ≤ℤ greatest_below n f (pos 0)
unfolding greatest_below
first_or_more zero f = omega (arith, ints)
first_or_more (suc n) f = let k = first_or_more n f in omega (arith, ints, clamps, k)

rho_positive : (c : Case) → pos 0 ≤ℤ (numbers_of c).rho
unfolding numbers_of
rho_positive c = first_or_more c.n _

ratio_sized : (c : Case) (x : Box) → fault_of c ≡ None → (pos 0 ≤ℤ ratio_high (numbers_of c) x) × (ratio_high (numbers_of c) x ≤ℤ pos (2 ^ 47))
unfolding ratio_high
ratio_sized c x accepted =
    least _ (numbers_of c).rho
    (ceiling_positive (attraction_high (numbers_of c) x *ℤ pos (2 ^ 47)) (unsigned_abs (covolume_range (numbers_of c) x).lo)
    (scaled (attraction_high (numbers_of c) x) (attraction_positive c x accepted)))
    (rho_positive c) (rho_most c accepted)
  where
    scaled : (z : ℤ) → pos 0 ≤ℤ z → pos 0 ≤ℤ (z *ℤ pos (2 ^ 47))
    scaled z h = omega (arith, ints, h)

    least : (a r : ℤ) → pos 0 ≤ℤ a → pos 0 ≤ℤ r → r ≤ℤ pos (2 ^ 47) → (pos 0 ≤ℤ int_min a r) × (int_min a r ≤ℤ pos (2 ^ 47))
    least a r h k l = (omega (arith, ints, clamps, h, k), omega (arith, ints, clamps, l))

lambda_most : (p : Numbers) (y : ℕ) → lambda_up p y ≤ℤ pos (2 ^ 48)
unfolding lambda_up
lambda_most p y = apart (log_up (one + y + stretched_up p y) 40) (log_down (one + y - stretched_up p y) 40) (log_up_most (one + y + stretched_up p y) 40) (log_down_least (one + y - stretched_up p y) 40)
  where
    apart : (a b : ℤ) → a ≤ℤ pos (2 ^ 47) → neg_ℤ (pos (40 * 2 ^ 40)) ≤ℤ b → (a -ℤ b) ≤ℤ pos (2 ^ 48)
    apart a b h k = omega (arith, ints, h, k)

attraction_most : (c : Case) (ratio : ℤ) (y : ℕ) → pos 0 ≤ℤ ratio → ratio ≤ℤ pos (2 ^ 47) → attraction_term_high (numbers_of c) ratio y ≤ℤ pos (2 ^ 55)
unfolding attraction_term_high
attraction_most c ratio y low high =
    subst (λ (t : ℤ). ceil_div (ratio *ℤ lambda_up (numbers_of c) y *ℤ pos (2 ^ 19)) t ≤ℤ pos (2 ^ 55)) (ap (λ (v : Ends). v.lo) (sym (two_exact c)))
    (ceiling_most (ratio *ℤ lambda_up (numbers_of c) y *ℤ pos (2 ^ 19)) 1630477228166597776 (2 ^ 55) (lit< tt)
    (weighed ratio (lambda_up (numbers_of c) y) low high (lambda_most (numbers_of c) y)))
  where
    weighed : (r l : ℤ) → pos 0 ≤ℤ r → r ≤ℤ pos (2 ^ 47) → l ≤ℤ pos (2 ^ 48) → (r *ℤ l *ℤ pos (2 ^ 19)) ≤ℤ pos (2 ^ 55 * 1630477228166597776)
    weighed (pos a) (pos b) h k l = omega (arith, ints, mul-le-mul (natural k) (natural l))
      where
        natural : {x m : ℕ} → pos x ≤ℤ pos m → x ≤ m
        natural h = omega (arith, ints, h)
    weighed (pos a) (negsuc b) h k l = omega (arith, ints, product_is (pos a) (negsuc b))
    weighed (negsuc a) l h k m = absurd (omega (arith, ints, h))

-- ---- the energy
pub energy_least : (c : Case) (x : Box) (yl yh : ℕ) → fault_of c ≡ None → ((i : ℕ) → i < c.n → slice_index x.lo i ≤ 2 ^ 40) → ((i : ℕ) → i < c.n → slice_index x.hi i ≤ 2 ^ 40) →
    neg_ℤ (pos (2 ^ 56)) ≤ℤ energy_low (numbers_of c) x yl yh
unfolding energy_low
energy_least c x yl yh accepted lows highs =
    let p = numbers_of c in
    let b = covolume_range p x in
    let ratio = ratio_sized c x accepted in
    added (int_sum_below p.count (λ i. mixing_low p (slice_index x.lo i) (slice_index x.hi i))) (volume_low p b.lo yl yh)
    (log_up (unsigned_abs b.hi) (56 + p.lift)) (log_up (one - yl) 40) (attraction_term_high p (ratio_high p x) yh)
    mixing (volume_least c b.lo yl yh (range_least c x accepted)) (log_up_most (unsigned_abs b.hi) (56 + p.lift)) (log_up_most (one - yl) 40)
    (attraction_most c (ratio_high p x) yh ratio.0 ratio.1)
  where
    mixing : neg_ℤ (pos (2 ^ 48)) ≤ℤ int_sum_below (numbers_of c).count (λ i. mixing_low (numbers_of c) (slice_index x.lo i) (slice_index x.hi i))
    mixing =
        four (int_sum_below (numbers_of c).count (λ i. mixing_low (numbers_of c) (slice_index x.lo i) (slice_index x.hi i))) (numbers_of c).count (omega (arith, count_of c, c.few))
        (sum_least (numbers_of c).count (λ i. mixing_low (numbers_of c) (slice_index x.lo i) (slice_index x.hi i)) (2 ^ 46)
        (λ i h. mixing_least c (slice_index x.lo i) (slice_index x.hi i) (lows i (live i h)) (highs i (live i h))))
      where
        four : (z : ℤ) (n : ℕ) → n ≤ 4 → neg_ℤ (pos (n * 2 ^ 46)) ≤ℤ z → neg_ℤ (pos (2 ^ 48)) ≤ℤ z
        four z n h k = omega (arith, ints, h, k)

        live : (i : ℕ) → i < (numbers_of c).count → i < c.n
        live i h = subst (λ (n : ℕ). i < n) (count_of c) h

    added : (m v a b t : ℤ) → neg_ℤ (pos (2 ^ 48)) ≤ℤ m → neg_ℤ (pos (40 * 2 ^ 40)) ≤ℤ v → a ≤ℤ pos (2 ^ 47) → b ≤ℤ pos (2 ^ 47) → t ≤ℤ pos (2 ^ 55) →
        neg_ℤ (pos (2 ^ 56)) ≤ℤ ((((m +ℤ v) -ℤ a) -ℤ b) -ℤ t)
    added m v a b t hm hv ha hb ht = omega (arith, ints, hm, hv, ha, hb, ht)
