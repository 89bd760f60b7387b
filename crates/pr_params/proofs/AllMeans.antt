-- The means of every composition of a box lie between the ends that the numbers give them, for any number of components.
use Rattle.std.proofs.Common.{◌≡◌, ℕ, zero, suc, ◌+◌, ◌*◌, ◌/◌, ◌^◌, ◌<◌, ◌≤◌, ap, sym, subst, arith, ℤ, pos, negsuc, ◌*ℤ◌, ◌≤ℤ◌, lit<, ◌∙◌, slice_index}
use Rattle.std.specs.Int.{int_min}
use Rattle.std.proofs.lemmas.Int.{ints, clamps}
use Rattle.std.proofs.lemmas.Nat.{pow-add, pow_pos}
use Rattle.std.proofs.Math.Nat.{mul-le-mul_left, mul-le-mul_right, le_of_mul-le-mul_right, div-le_of_le-mul, zero-div}
use Rattle.log_laws.specs.Between.{Ends, IsBetween}
use Rattle.log_laws.specs.Fraction.{Fraction, IsAtMost, quotient_of}
use Rattle.log_laws.specs.LogSum.{ratio}
use Rattle.log_laws.specs.Sums.{sum_below, least_below, greatest_below}
use Rattle.log_laws.specs.Whole.{positive_part, floor_div, ceil_div, ceil_quotient}
use Rattle.log_laws.proofs.Exports.{le_of_mul-le_ℤ, product_pos, scale_scale, le-ceil_over, mul-le_ℤ, ≤ℤ_trans, sum_below-scaled, le-greatest}
use Rattle.case_types.specs.Arithmetic.Bounds.{Box, one, covolume_range, attraction_low, attraction_high, ratio_low, ratio_high}
use Rattle.case_types.specs.Energy.Divisions.{bits}
use Rattle.case_types.specs.Arithmetic.Numbers.{Numbers, greatest_ratio}
use Rattle.case_types.specs.Arithmetic.Tables.{ends_at, ends_of_pair}
use Rattle.pr_params.proofs.Attracted.{by_among, among_of_between}
use Rattle.pr_params.proofs.Mean.{ratio_high_is, ratio_low_is}
use Rattle.pr_params.proofs.RatioEnds.{quotient_above, quotient_below}
use Rattle.pr_params.proofs.Sized.{ends_ordered}
use Rattle.pr_params.proofs.Spread.{of_lesser, above_all}
use Rattle.pr_params.proofs.Weighted.{IsOver, IsUnder, mean_by, mean_over, mean_under, under_greater}
use Rattle.pr_params.proofs.CovolumeRange.{natural_is, over_end, under_end, high_of, AreInBox, range_holds, HasLeastParts}
use Rattle.pr_params.proofs.AttractionRange.{shared_down, shared_up, shared_below, shared_down_positive, shared_up_positive, mean_above, mean_below}

-- ---- one quotient
-- what is known of a mean attraction and of a mean co-volume: their ends, and a share of both in one sum
record AreHeld (v w : Ends) (l g sum m : ℕ) (a b : Fraction) : Type 0 where
  attraction : IsBetween v (2 ^ (49 + l)) a
  covolume : IsBetween w (2 ^ (56 + l)) b
  share : IsUnder (g * sum) (m * (2 ^ 47 * 2 ^ (49 + l))) a
  of_share : IsOver sum (m * 2 ^ (56 + l)) b

record IsQuotientHeld (n n' d d' g : ℕ) (f : Fraction) : Type 0 where
  low : IsAtMost (bits (pos (n * 2 ^ 47 / d'))) f
  high : IsAtMost f (bits (int_min (pos (ceil_quotient (n' * 2 ^ 47) d)) (pos g)))

share_order : (g sum m l au ad bu bd : ℕ) → 0 < m → au * (m * (2 ^ 47 * 2 ^ (49 + l))) ≤ g * sum * ad → sum * bd ≤ bu * (m * 2 ^ (56 + l))
    → au * bd * 2 ^ 40 ≤ g * (ad * bu)
share_order g sum m l au ad bu bd some h k =
    let h' : au * (m * (2 ^ 47 * (2 ^ 49 * 2 ^ l))) ≤ g * sum * ad = rw (pow-add 2 49 l) at h in
    let k' : sum * bd ≤ bu * (m * (2 ^ 56 * 2 ^ l)) = rw (pow-add 2 56 l) at k in
    let p = mul-le-mul_right bd h' in
    let q = mul-le-mul_right (g * ad) k' in
    let all : au * bd * 2 ^ 40 * (m * 2 ^ l) ≤ g * (ad * bu) * (m * 2 ^ l) = omega (arith, p, q) in
    le_of_mul-le-mul_right all (product_pos m (2 ^ l) some (pow_pos l))

at_ratios : (n n' d d' l g sum m au ad bu bd : ℕ) → 0 < d → 0 < m
    → AreHeld (record { lo = pos n; hi = pos n' }) (record { lo = pos d; hi = pos d' }) l g sum m (ratio au ad) (ratio bu bd)
    → IsQuotientHeld n n' d d' g (quotient_of (ratio au ad) (ratio bu bd))
at_ratios n n' d d' l g sum m au ad bu bd some hm h =
    let a = among_of_between n n' (2 ^ (49 + l)) au ad h.attraction in
    let b = among_of_between d d' (2 ^ (56 + l)) bu bd h.covolume in
    let above = quotient_above n n d' l au ad bu bd (omega arith) a.above b.below in
    let below = quotient_below n' n' d l au ad bu bd some (omega arith) a.below b.above in
    let s = h.share.is in
    let o = h.of_share.is in
    let share = share_order g sum m l au ad bu bd hm (omega (arith, ints, s)) (omega (arith, ints, o)) in
    record {
      low = omega (arith, ints, above);
      high = of_lesser (λ z. IsAtMost (ratio (au * bd) (ad * bu)) (bits z)) (pos (ceil_quotient (n' * 2 ^ 47) d)) (pos g)
          (omega (arith, ints, below)) (omega (arith, ints, share));
    }

quotient_held : (n n' d d' l g sum m : ℕ) (a b : Fraction) → 0 < d → 0 < m
    → AreHeld (record { lo = pos n; hi = pos n' }) (record { lo = pos d; hi = pos d' }) l g sum m a b
    → IsQuotientHeld n n' d d' g (quotient_of a b)
quotient_held n n' d d' l g sum m a b some hm h =
    let v : Ends = record { lo = pos n; hi = pos n' } in
    let w : Ends = record { lo = pos d; hi = pos d' } in
    by_among (λ e f. AreHeld v w l g sum m f b → IsQuotientHeld n n' d d' g (quotient_of f b)) v (2 ^ (49 + l)) a (omega (arith, ints)) h.attraction (pow_pos (49 + l))
    (λ x x' au ad e among k.
    by_among (λ e f. AreHeld v w l g sum m (ratio au ad) f → IsQuotientHeld n n' d d' g (quotient_of (ratio au ad) f)) w (2 ^ (56 + l)) b (omega (arith, ints)) h.covolume (pow_pos (56 + l))
    (λ y y' bu bd e' among' k'. at_ratios n n' d d' l g sum m au ad bu bd some hm k') k) h

-- ---- the numbers
-- of n components: no end is negative, and no co-volume 0
pub record AreUsable (n : ℕ) (q : Numbers) : Type 0 where
  pub count : q.count ≡ n
  pub some : 0 < n
  pub covolumes : (i : ℕ) → i < n → pos 1 ≤ℤ (ends_at q.covolumes i).lo
  pub attractions : (i j : ℕ) → i < n → j < n → pos 0 ≤ℤ (ends_of_pair q.attractions i j).lo
  pub rho : q.rho ≡ greatest_ratio n q.attractions q.covolumes

-- they hold co-volumes and attractions
pub record HoldEach (n : ℕ) (q : Numbers) (b : ℕ → Fraction) (a : ℕ → ℕ → Fraction) : Type 0 where
  pub covolume : (i : ℕ) → i < n → IsBetween (ends_at q.covolumes i) (2 ^ (56 + q.lift)) (b i)
  pub attraction : (i j : ℕ) → i < n → j < n → IsBetween (ends_of_pair q.attractions i j) (2 ^ (49 + q.lift)) (a i j)

-- ---- the greatest ratio
first-le-greatest : (n : ℕ) (f : ℕ → ℤ) (first : ℤ) → first ≤ℤ greatest_below n f first
unfolding greatest_below
first-le-greatest zero f first = omega (arith, ints)
first-le-greatest (suc n) f first = let e = first-le-greatest n f first in omega (arith, ints, clamps, e)

pub le-least : (n : ℕ) (f : ℕ → ℤ) (first w : ℤ) → w ≤ℤ first → ((i : ℕ) → i < n → w ≤ℤ f i) → w ≤ℤ least_below n f first
unfolding least_below
le-least zero f first w h k = h
le-least (suc n) f first w h k =
    let e = le-least n f first w h (λ i l. k i (omega (arith, l))) in
    let here = k n (omega arith) in
    omega (arith, ints, clamps, e, here)

-- a number over a co-volume, at most the greatest
ceil_at_most : (z g : ℤ) (d : ℕ) → 0 < d → ceil_div z (pos d) ≤ℤ g → z ≤ℤ (g *ℤ pos d)
ceil_at_most z g d some h = ≤ℤ_trans _ _ _ (le-ceil_over z d some) (mul-le_ℤ (ceil_div z (pos d)) g d h)

pub rho_positive : (n : ℕ) (q : Numbers) → AreUsable n q → pos 0 ≤ℤ q.rho
rho_positive n q u =
    subst (λ z. pos 0 ≤ℤ z) (sym u.rho)
    (first-le-greatest n (λ i. greatest_below n (λ j. ceil_div ((ends_of_pair q.attractions i j).hi *ℤ pos (2 ^ 47)) (ends_at q.covolumes i).lo) (pos 0)) (pos 0))

-- in naturals: the ends and the greatest ratio
abbrev least_of : Numbers → ℕ → ℕ
least_of q i = positive_part (ends_at q.covolumes i).lo

abbrev most_of : Numbers → ℕ → ℕ → ℕ
most_of q i j = positive_part (ends_of_pair q.attractions i j).hi

least_is : (n : ℕ) (q : Numbers) (i : ℕ) → AreUsable n q → i < n → (ends_at q.covolumes i).lo ≡ pos (least_of q i)
least_is n q i u k = let e = u.covolumes i k in natural_is (ends_at q.covolumes i).lo (omega (arith, ints, e))

most_is : (n : ℕ) (q : Numbers) (b : ℕ → Fraction) (a : ℕ → ℕ → Fraction) (i j : ℕ) → AreUsable n q → HoldEach n q b a → i < n → j < n
    → (ends_of_pair q.attractions i j).hi ≡ pos (most_of q i j)
most_is n q b a i j u h k l =
    let e = u.attractions i j k l in
    let o = ends_ordered (ends_of_pair q.attractions i j) (2 ^ (49 + q.lift)) (a i j) (h.attraction i j k l) in
    natural_is (ends_of_pair q.attractions i j).hi (omega (arith, ints, e, o))

ratio_at_most : (n : ℕ) (q : Numbers) (b : ℕ → Fraction) (a : ℕ → ℕ → Fraction) (i j : ℕ) → AreUsable n q → HoldEach n q b a → i < n → j < n
    → most_of q i j * 2 ^ 47 ≤ positive_part q.rho * least_of q i
ratio_at_most n q b a i j u h k l =
    let f : ℕ → ℕ → ℤ = λ i j. ceil_div ((ends_of_pair q.attractions i j).hi *ℤ pos (2 ^ 47)) (ends_at q.covolumes i).lo in
    let row = le-greatest n j (f i) (pos 0) l in
    let all = le-greatest n i (λ i. greatest_below n (f i) (pos 0)) (pos 0) k in
    let below : f i j ≤ℤ pos (positive_part q.rho) =
    rw (sym (natural_is q.rho (rho_positive n q u)), u.rho) (≤ℤ_trans _ _ _ row all) in
    let at = least_is n q i u k in
    let most = most_is n q b a i j u h k l in
    let some = u.covolumes i k in
    let below' : ceil_div (pos (most_of q i j) *ℤ pos (2 ^ 47)) (pos (least_of q i)) ≤ℤ pos (positive_part q.rho) = rw (at, most) at below in
    let z = ceil_at_most (pos (most_of q i j) *ℤ pos (2 ^ 47)) (pos (positive_part q.rho)) (least_of q i) (omega (arith, ints, some, at)) below' in
    omega (arith, ints, z)

-- ---- shares of one sum
factored : (n g : ℕ) (p l : ℕ → ℕ) → sum_below n (λ i. p i * (g * l i)) ≡ g * sum_below n (λ i. p i * l i)
factored zero g p l = omega arith
factored (suc n) g p l = omega (arith, factored n g p l)

-- an upper end at a greater scale
scaled_up : (z s k : ℕ) (f : Fraction) → IsUnder z s f → IsUnder (z * k) (k * s) f
scaled_up z s k f h =
    let q = mul-le_ℤ (f.num *ℤ pos s) (pos z *ℤ pos f.den) k h.is in
    let same : s * k ≡ k * s = omega arith in
    let l : (f.num *ℤ pos (s * k)) ≤ℤ (pos (z * k) *ℤ pos f.den) = rw (sym (scale_scale f.num s k)) (omega (arith, ints, q)) in
    record { is_fraction = h.is_fraction; is = subst (λ (e : ℕ). (f.num *ℤ pos e) ≤ℤ (pos (z * k) *ℤ pos f.den)) same l }

share_of_row : (n : ℕ) (q : Numbers) (b : ℕ → Fraction) (a : ℕ → ℕ → Fraction) (p : ℕ → ℕ) (m i : ℕ) → AreUsable n q → HoldEach n q b a → 0 < m → m ≡ sum_below n p → i < n
    → IsUnder (positive_part q.rho * least_of q i) (2 ^ 47 * 2 ^ (49 + q.lift)) (mean_by n m p (a i))
share_of_row n q b a p m i u h some all k =
    let s = 2 ^ 47 * 2 ^ (49 + q.lift) in
    let w = positive_part q.rho * least_of q i in
    let z : ℕ → ℕ = λ j. most_of q i j * 2 ^ 47 in
    let sum = sum_below n (λ j. p j * z j) in
    let hs : 0 < s = product_pos (2 ^ 47) (2 ^ (49 + q.lift)) (lit< tt) (pow_pos (49 + q.lift)) in
    let under = mean_under n m s p z (a i) some hs
    (λ j l. scaled_up (most_of q i j) (2 ^ (49 + q.lift)) (2 ^ 47) (a i j)
    (under_end (ends_of_pair q.attractions i j) (2 ^ (49 + q.lift)) (a i j)
    (high_of (ends_of_pair q.attractions i j) (2 ^ (49 + q.lift)) (a i j) (record { low = u.attractions i j k l; held = h.attraction i j k l }))
    (h.attraction i j k l))) in
    let above : pos sum ≤ℤ (pos w *ℤ pos m) =
    subst (λ (e : ℕ). pos sum ≤ℤ (pos w *ℤ pos e)) (sym all)
    (above_all n p z (pos w) (λ j l. let e = ratio_at_most n q b a i j u h k l in omega (arith, ints, e))) in
    record { is_fraction = under.is_fraction; is = under_greater (pos w) sum m s (mean_by n m p (a i)) some above under }

-- the mean attraction has at most so much of the sum of the co-volumes
share_of_all : (n : ℕ) (q : Numbers) (b : ℕ → Fraction) (a : ℕ → ℕ → Fraction) (p : ℕ → ℕ) (m : ℕ) → AreUsable n q → HoldEach n q b a → 0 < m → m ≡ sum_below n p
    → IsUnder (positive_part q.rho * sum_below n (λ i. p i * least_of q i)) (m * (2 ^ 47 * 2 ^ (49 + q.lift))) (mean_by n m p (λ i. mean_by n m p (a i)))
share_of_all n q b a p m u h some all =
    let s = 2 ^ 47 * 2 ^ (49 + q.lift) in
    let hs : 0 < s = product_pos (2 ^ 47) (2 ^ (49 + q.lift)) (lit< tt) (pow_pos (49 + q.lift)) in
    subst (λ (e : ℕ). IsUnder e (m * s) (mean_by n m p (λ i. mean_by n m p (a i)))) (factored n (positive_part q.rho) p (least_of q))
    (mean_under n m s p (λ i. positive_part q.rho * least_of q i) (λ i. mean_by n m p (a i)) some hs
    (λ i k. share_of_row n q b a p m i u h some all k))

-- ---- the mean attraction
abbrev low_by : ℕ → Numbers → Box → ℤ
low_by n q x = shared_down n (slice_index x.lo) (λ i. shared_down n (slice_index x.lo) (λ j. (ends_of_pair q.attractions i j).lo))

abbrev high_by : ℕ → Numbers → Box → ℤ
high_by n q x = shared_up n (slice_index x.hi) (λ i. shared_up n (slice_index x.hi) (λ j. (ends_of_pair q.attractions i j).hi))

low_row_positive : (n : ℕ) (q : Numbers) (x : Box) (i : ℕ) → AreUsable n q → i < n
    → pos 0 ≤ℤ shared_down n (slice_index x.lo) (λ j. (ends_of_pair q.attractions i j).lo)
low_row_positive n q x i u k =
    shared_down_positive n (slice_index x.lo) (λ j. (ends_of_pair q.attractions i j).lo) (λ j. positive_part (ends_of_pair q.attractions i j).lo)
    (λ j l. natural_is (ends_of_pair q.attractions i j).lo (u.attractions i j k l))

high_row_positive : (n : ℕ) (q : Numbers) (b : ℕ → Fraction) (a : ℕ → ℕ → Fraction) (x : Box) (p : ℕ → ℕ) (m i : ℕ) → AreUsable n q → HoldEach n q b a → AreInBox n x p m → i < n
    → pos 0 ≤ℤ shared_up n (slice_index x.hi) (λ j. (ends_of_pair q.attractions i j).hi)
high_row_positive n q b a x p m i u h box k =
    shared_up_positive n p (slice_index x.hi) (λ j. (ends_of_pair q.attractions i j).hi) (most_of q i) m box.some (λ j l. (box.inside j l).below)
    (λ j l. most_is n q b a i j u h k l)

low_attraction : (n : ℕ) (q : Numbers) (b : ℕ → Fraction) (a : ℕ → ℕ → Fraction) (x : Box) (p : ℕ → ℕ) (m : ℕ) → AreUsable n q → HoldEach n q b a → AreInBox n x p m
    → IsOver (positive_part (low_by n q x)) (2 ^ (49 + q.lift)) (mean_by n m p (λ i. mean_by n m p (a i)))
low_attraction n q b a x p m u h box =
    let s = 2 ^ (49 + q.lift) in
    let hs = pow_pos (49 + q.lift) in
    mean_above n m s p (slice_index x.lo) (λ i. shared_down n (slice_index x.lo) (λ j. (ends_of_pair q.attractions i j).lo)) (λ i. mean_by n m p (a i)) box.some hs
    (λ i k. (box.inside i k).above) (λ i k. low_row_positive n q x i u k)
    (λ i k. mean_above n m s p (slice_index x.lo) (λ j. (ends_of_pair q.attractions i j).lo) (a i) box.some hs (λ j l. (box.inside j l).above)
    (λ j l. u.attractions i j k l) (λ j l. over_end (ends_of_pair q.attractions i j) s (a i j) (u.attractions i j k l) (h.attraction i j k l)))

high_attraction : (n : ℕ) (q : Numbers) (b : ℕ → Fraction) (a : ℕ → ℕ → Fraction) (x : Box) (p : ℕ → ℕ) (m : ℕ) → AreUsable n q → HoldEach n q b a → AreInBox n x p m
    → IsUnder (positive_part (high_by n q x)) (2 ^ (49 + q.lift)) (mean_by n m p (λ i. mean_by n m p (a i)))
high_attraction n q b a x p m u h box =
    let s = 2 ^ (49 + q.lift) in
    let hs = pow_pos (49 + q.lift) in
    let end : (i j : ℕ) → i < n → j < n → pos 0 ≤ℤ (ends_of_pair q.attractions i j).hi =
    λ i j k l. high_of (ends_of_pair q.attractions i j) s (a i j) (record { low = u.attractions i j k l; held = h.attraction i j k l }) in
    mean_below n m s p (slice_index x.hi) (λ i. shared_up n (slice_index x.hi) (λ j. (ends_of_pair q.attractions i j).hi)) (λ i. mean_by n m p (a i)) box.some hs
    (λ i k. (box.inside i k).below) (λ i k. high_row_positive n q b a x p m i u h box k)
    (λ i k. mean_below n m s p (slice_index x.hi) (λ j. (ends_of_pair q.attractions i j).hi) (a i) box.some hs (λ j l. (box.inside j l).below)
    (λ j l. end i j k l) (λ j l. under_end (ends_of_pair q.attractions i j) s (a i j) (end i j k l) (h.attraction i j k l)))

-- both ends are naturals
low_natural : (n : ℕ) (q : Numbers) (x : Box) → AreUsable n q → attraction_low q x ≡ pos (positive_part (low_by n q x))
low_natural n q x u =
    ap (λ (c : ℕ). low_by c q x) u.count
    ∙ natural_is (low_by n q x) (shared_down_positive n (slice_index x.lo) (λ i. shared_down n (slice_index x.lo) (λ j. (ends_of_pair q.attractions i j).lo))
    (λ i. positive_part (shared_down n (slice_index x.lo) (λ j. (ends_of_pair q.attractions i j).lo)))
    (λ i k. natural_is (shared_down n (slice_index x.lo) (λ j. (ends_of_pair q.attractions i j).lo)) (low_row_positive n q x i u k)))

high_natural : (n : ℕ) (q : Numbers) (b : ℕ → Fraction) (a : ℕ → ℕ → Fraction) (x : Box) (p : ℕ → ℕ) (m : ℕ) → AreUsable n q → HoldEach n q b a → AreInBox n x p m
    → attraction_high q x ≡ pos (positive_part (high_by n q x))
high_natural n q b a x p m u h box =
    ap (λ (c : ℕ). high_by c q x) u.count
    ∙ natural_is (high_by n q x) (shared_up_positive n p (slice_index x.hi) (λ i. shared_up n (slice_index x.hi) (λ j. (ends_of_pair q.attractions i j).hi))
    (λ i. positive_part (shared_up n (slice_index x.hi) (λ j. (ends_of_pair q.attractions i j).hi))) m box.some (λ i k. (box.inside i k).below)
    (λ i k. natural_is (shared_up n (slice_index x.hi) (λ j. (ends_of_pair q.attractions i j).hi)) (high_row_positive n q b a x p m i u h box k)))

-- the mean attraction lies between them
pub attraction_between : (n : ℕ) (q : Numbers) (b : ℕ → Fraction) (a : ℕ → ℕ → Fraction) (x : Box) (p : ℕ → ℕ) (m : ℕ) → AreUsable n q → HoldEach n q b a → AreInBox n x p m
    → IsBetween (record { lo = attraction_low q x; hi = attraction_high q x }) (2 ^ (49 + q.lift)) (mean_by n m p (λ i. mean_by n m p (a i)))
attraction_between n q b a x p m u h box =
    let over = low_attraction n q b a x p m u h box in
    let under = high_attraction n q b a x p m u h box in
    record { is_fraction = over.is_fraction; above = rw (low_natural n q x u) over.is; below = rw (high_natural n q b a x p m u h box) under.is }

-- ---- all of them
pub record AreMeans (q : Numbers) (x : Box) (b a : Fraction) : Type 0 where
  pub covolume : IsBetween (covolume_range q x) (2 ^ (56 + q.lift)) b
  pub low : IsAtMost (bits (ratio_low q x)) (quotient_of a b)
  pub high : IsAtMost (quotient_of a b) (bits (ratio_high q x))
  pub low_positive : pos 0 ≤ℤ ratio_low q x
  pub high_positive : pos 0 ≤ℤ ratio_high q x

range_low : (n : ℕ) (q : Numbers) (x : Box) → AreUsable n q → pos 1 ≤ℤ (covolume_range q x).lo
unfolding covolume_range
range_low n q x u =
    let first = u.covolumes 0 u.some in
    let e = le-least q.count (λ i. (ends_at q.covolumes i).lo) (ends_at q.covolumes 0).lo (pos 1) first
    (λ i k. u.covolumes i (subst (λ (c : ℕ). i < c) u.count k)) in
    omega (arith, ints, clamps, e)

pub all_means : (n : ℕ) (q : Numbers) (b : ℕ → Fraction) (a : ℕ → ℕ → Fraction) (x : Box) (p : ℕ → ℕ) (m : ℕ) → AreUsable n q → HoldEach n q b a → AreInBox n x p m
    → AreMeans q x (mean_by n m p b) (mean_by n m p (λ i. mean_by n m p (a i)))
all_means n q b a x p m u h box =
    let s = 2 ^ (56 + q.lift) in
    let mean_b = mean_by n m p b in
    let mean_a = mean_by n m p (λ i. mean_by n m p (a i)) in
    let sum = sum_below n (λ i. p i * least_of q i) in
    let range = range_holds n q x p m s b u.count u.some (pow_pos (56 + q.lift)) box
    (λ i k. record { low = (let e = u.covolumes i k in omega (arith, ints, e)); held = h.covolume i k }) in
    let low = range_low n q x u in
    let ordered = ends_ordered (covolume_range q x) s mean_b range in
    let n0 = positive_part (low_by n q x) in
    let n1 = positive_part (high_by n q x) in
    let d0 = positive_part (covolume_range q x).lo in
    let d1 = positive_part (covolume_range q x).hi in
    let at_low : (covolume_range q x).lo ≡ pos d0 = natural_is (covolume_range q x).lo (omega (arith, ints, low)) in
    let at_high : (covolume_range q x).hi ≡ pos d1 = natural_is (covolume_range q x).hi (omega (arith, ints, low, ordered)) in
    let over = low_attraction n q b a x p m u h box in
    let under = high_attraction n q b a x p m u h box in
    let rho = natural_is q.rho (rho_positive n q u) in
    let held = quotient_held n0 n1 d0 d1 q.lift (positive_part q.rho) sum m mean_a mean_b (omega (arith, ints, low, at_low)) box.some (record {
      attraction = record { is_fraction = over.is_fraction; above = over.is; below = under.is };
      covolume = record { is_fraction = range.is_fraction; above = rw at_low at range.above; below = rw at_high at range.below };
      share = share_of_all n q b a p m u h box.some box.all;
      of_share = mean_over n m s p (least_of q) b box.some (pow_pos (56 + q.lift))
          (λ i k. over_end (ends_at q.covolumes i) s (b i) (let e = u.covolumes i k in omega (arith, ints, e)) (h.covolume i k));
    }) in
    let low_ratio = ratio_low_is q x n0 d1 (low_natural n q x u) at_high in
    let high_ratio = ratio_high_is q x n1 d0 (omega (arith, ints, low, at_low)) (high_natural n q b a x p m u h box) at_low in
    let positive = rho_positive n q u in
    record {
      covolume = range;
      low = rw low_ratio held.low;
      high = rw high_ratio
          (subst (λ (z : ℤ). IsAtMost (quotient_of mean_a mean_b) (bits (int_min (pos (ceil_quotient (n1 * 2 ^ 47) d0)) z))) (sym rho) held.high);
      low_positive = rw low_ratio (omega (arith, ints));
      high_positive = rw high_ratio (omega (arith, ints, clamps, positive));
    }

-- ---- the mean attraction at least, against co-volumes
-- the floor of a number that is at most 0
not_above_zero : (z : ℤ) (d : ℕ) → z ≤ℤ pos 0 → floor_div z (pos d) ≤ℤ pos 0
not_above_zero (pos zero) d h = rw (zero-div d) (omega (arith, ints))
not_above_zero (pos (suc n)) d h = absurd (omega (arith, ints, h))
not_above_zero (negsuc n) d h = omega (arith, ints)

-- the floor of at most one, in 2^-47
pub floor_ratio_most : (a d : ℤ) → a ≤ℤ d → pos 1 ≤ℤ d → floor_div (a *ℤ pos (2 ^ 47)) d ≤ℤ pos (2 ^ 47)
floor_ratio_most (pos a) (pos d) h k = let q = div-le_of_le-mul d (at_most_times a d h) in omega (arith, ints, q)
  where
    at_most_times : (a d : ℕ) → pos a ≤ℤ pos d → a * 2 ^ 47 ≤ d * 2 ^ 47
    at_most_times a d h = omega (arith, ints, h)
floor_ratio_most (negsuc a) (pos d) h k = let q = not_above_zero (negsuc a *ℤ pos (2 ^ 47)) d (omega (arith, ints)) in omega (arith, ints, q)
floor_ratio_most a (negsuc d) h k = absurd (omega (arith, ints, k))

-- where each attraction is at most the first co-volume, so is the mean
pub least_attraction_below : (n : ℕ) (q : Numbers) (x : Box) (range : Ends) → AreUsable n q
    → ((i j : ℕ) → i < n → j < n → (ends_of_pair q.attractions i j).lo ≤ℤ (ends_at q.covolumes i).lo)
    → ((i : ℕ) → i < n → (ends_at q.covolumes i).lo ≤ℤ (ends_at q.covolumes i).hi) → HasLeastParts n q.covolumes x range
    → low_by n q x ≤ℤ range.hi
least_attraction_below n q x range u most order least =
    let xl = slice_index x.lo in
    let row : ℕ → ℤ = λ i. shared_down n xl (λ j. (ends_of_pair q.attractions i j).lo) in
    let row_most : (i : ℕ) → i < n → row i ≤ℤ pos (positive_part (ends_at q.covolumes i).hi) =
    λ i h.
    (let z : ℕ → ℕ = λ j. positive_part (ends_of_pair q.attractions i j).lo in
    let w = (ends_at q.covolumes i).hi in
    let o = order i h in
    let c = u.covolumes i h in
    let below = shared_below n least.parts xl (λ j. (ends_of_pair q.attractions i j).lo) z one least.above (λ j g. natural_is (ends_of_pair q.attractions i j).lo (u.attractions i j h g)) in
    let above : pos (sum_below n (λ j. least.parts j * z j)) ≤ℤ (w *ℤ pos one) =
    subst (λ (k : ℕ). pos (sum_below n (λ j. least.parts j * z j)) ≤ℤ (w *ℤ pos k)) (sym least.all)
    (above_all n least.parts z w
    (λ j g. let m = most i j h g in let e = natural_is (ends_of_pair q.attractions i j).lo (u.attractions i j h g) in omega (arith, ints, m, e, o))) in
    let all = le_of_mul-le_ℤ (row i) w one (lit< tt) (≤ℤ_trans _ _ _ below above) in
    let e = natural_is w (omega (arith, ints, o, c)) in
    omega (arith, ints, all, e)) in
    let z : ℕ → ℕ = λ i. positive_part (row i) in
    let natural : (i : ℕ) → i < n → row i ≡ pos (z i) = λ i h. natural_is (row i) (low_row_positive n q x i u h) in
    let below = shared_below n least.parts xl row z one least.above natural in
    let less : sum_below n (λ i. least.parts i * z i) ≤ sum_below n (λ i. least.parts i * positive_part (ends_at q.covolumes i).hi) =
    sums_below n (λ i. least.parts i * z i) (λ i. least.parts i * positive_part (ends_at q.covolumes i).hi)
    (λ i h. mul-le-mul_left (least.parts i) (let m = row_most i h in let e = natural i h in omega (arith, ints, m, e))) in
    let under = least.under in
    le_of_mul-le_ℤ (low_by n q x) range.hi one (lit< tt) (≤ℤ_trans _ _ _ below (≤ℤ_trans _ _ _ (omega (arith, ints, less)) under))
  where
    sums_below : (n : ℕ) (f g : ℕ → ℕ) → ((i : ℕ) → i < n → f i ≤ g i) → sum_below n f ≤ sum_below n g
    sums_below n f g h = let e = sum_below-scaled n f g 1 1 (λ i k. let l = h i k in omega (arith, l)) in omega (arith, e)
