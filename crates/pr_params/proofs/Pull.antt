-- The attraction term, -A / (2 s B) times a logarithm, from ends of A / B, of s and of the logarithm.
use Rattle.std.proofs.Common.{ℕ, zero, suc, ◌+◌, ◌*◌, ◌^◌, ◌≤◌, ◌<◌, ◌≡◌, refl, subst, arith, lit<, ◌⊎◌, inl, inr, ℤ, pos, negsuc, neg_ℤ, ◌*ℤ◌, ◌≤ℤ◌}
use Rattle.std.proofs.Math.Nat.{mul-le-mul_right, le_of_mul-le-mul_right}
use Rattle.std.proofs.lemmas.Int.{ints}
use borrow.Author.Differences.{up, down, at_most_in, le_out, product_is, neg_is}
use Rattle.log_laws.specs.Fraction.{Fraction, IsFraction, IsAtMost, IsSame, whole, negated, product_of, quotient_of}
use Rattle.log_laws.specs.LogSum.{AtLeast, AtMost, ratio, IsPositive, times_log, scaled}
use Rattle.log_laws.proofs.Exports.{at_most_is_opposite, IsParts, parts_self, parts_ratio, parts_one, parts_product, parts_negated, parts_respelled, parts_sum_at, parts_of_at_most, same_of_parts, product_pos, at_least_scales, fraction_one, lowered, bounds_ordered, at_least-same, by_ratio, order_of_ratios, parts_quotient, quotient_of_parts, by_natural}
use Rattle.case_types.specs.Energy.Divisions.{bits, log_of, minus_log_of}

-- ---- one logarithm scaled
-- k * f is g
pub times_scaled : (k f g a r : Fraction) → IsFraction k → IsFraction g → IsSame (product_of k f) g → IsPositive a → AtLeast (scaled k (times_log f a)) r → AtLeast (times_log g a) r
times_scaled k f g a r pk pg e pa x =
    at_least-same (scaled k (times_log f a)) (times_log g a) r (record {
      fraction = lit< tt;
      rest = same_of_parts nothing (parts_self (pos 0) 1 (lit< tt)) refl;
      terms = (record { fraction = pg; factor = e; positive = pa; argument = refl }, tt);
    }) x
  where
    nothing : IsParts (product_of k (whole (pos 0))) 0 0 1
    nothing = parts_respelled (parts_product (parts_self k.num k.den pk) (parts_self (pos 0) 1 (lit< tt))) (lit< tt) (omega arith)

-- a fraction without a part to take off isn't negative
not_negative : {f : Fraction} {u d : ℕ} → IsParts f u 0 d → pos 0 ≤ℤ f.num
not_negative {f} {u} {d} p = made f.num f.den p.d_pos p.is
  where
    made : (z : ℤ) (F : ℕ) → 0 < d → up z * d + 0 * F ≡ down z * d + u * F → pos 0 ≤ℤ z
    made (pos n) F h e = at_most_in (pos 0) (pos n) (omega arith)
    made (negsuc n) F h e = absurd (omega arith)

-- ---- whole numbers
-- A / B at most G / 2 ^ 40 and s at least sl / 2 ^ 60
factor_below : (an ad bn bd sn sd sl G : ℕ) → an * bd * 2 ^ 40 ≤ G * (ad * bn) → sl * sd ≤ sn * 2 ^ 60 →
    an * sd * bd * sl ≤ G * 2 ^ 19 * (ad * (2 * (sn * bn)))
factor_below an ad bn bd sn sd sl G h l =
    let l' : sl * sd * (an * bd) ≤ sn * 2 ^ 60 * (an * bd) = mul-le-mul_right (an * bd) l in
    let h' : an * bd * 2 ^ 40 * sn ≤ G * (ad * bn) * sn = mul-le-mul_right sn h in omega arith

-- A / B at least G / 2 ^ 40 and s at most sh / 2 ^ 60
factor_above : (an ad bn bd sn sd sh G : ℕ) → G * (ad * bn) ≤ an * bd * 2 ^ 40 → sn * 2 ^ 60 ≤ sh * sd →
    G * 2 ^ 19 * (ad * (2 * (sn * bn))) ≤ an * sd * bd * sh
factor_above an ad bn bd sn sd sh G h l =
    let l' : sn * 2 ^ 60 * (an * bd) ≤ sh * sd * (an * bd) = mul-le-mul_right (an * bd) l in
    let h' : G * (ad * bn) * sn ≤ an * bd * 2 ^ 40 * sn = mul-le-mul_right sn h in omega arith

scaled_below : (kn kd L C sl G : ℕ) → 0 < sl → kn * sl ≤ G * 2 ^ 19 * kd → G * L * 2 ^ 19 ≤ C * sl → kn * L ≤ C * kd
scaled_below kn kd L C sl G h k c =
    let k' : kn * sl * L ≤ G * 2 ^ 19 * kd * L = mul-le-mul_right L k in
    let c' : G * L * 2 ^ 19 * kd ≤ C * sl * kd = mul-le-mul_right kd c in
    let l : (kn * L) * sl ≤ (C * kd) * sl = omega arith in le_of_mul-le-mul_right l h

scaled_above : (kn kd L cu cd sh G : ℕ) → 0 < sh → G * 2 ^ 19 * kd ≤ kn * sh → cu * sh ≤ G * L * 2 ^ 19 + cd * sh → cu * kd ≤ kn * L + cd * kd
scaled_above kn kd L cu cd sh G h k c =
    let k' : G * 2 ^ 19 * kd * L ≤ kn * sh * L = mul-le-mul_right L k in
    let c' : cu * sh * kd ≤ (G * L * 2 ^ 19 + cd * sh) * kd = mul-le-mul_right kd c in
    let l : (cu * kd) * sh ≤ (kn * L + cd * kd) * sh = omega arith in le_of_mul-le-mul_right l h

-- ---- the factor A / (2 s B)
abbrev pub pull_factor : Fraction → Fraction → Fraction → Fraction
pull_factor s a b = quotient_of a (product_of (product_of (whole (pos 2)) s) b)

factor_parts : (a : Fraction) (sn sd bn bd : ℕ) → IsFraction a → 0 < sn → 0 < sd → 0 < bn → 0 < bd →
    IsParts (pull_factor (ratio sn sd) a (ratio bn bd)) (up a.num * sd * bd) (down a.num * sd * bd) (a.den * (2 * (sn * bn)))
factor_parts a sn sd bn bd h psn psd pbn pbd =
    let below : IsParts (product_of (product_of (whole (pos 2)) (ratio sn sd)) (ratio bn bd)) (2 * (sn * bn)) 0 (sd * bd) =
    parts_respelled (parts_ratio (2 * sn * bn) (1 * sd * bd) (product_pos (1 * sd) bd (omega arith) pbd)) (product_pos sd bd psd pbd) (omega arith) in
    let n = product_pos 2 (sn * bn) (lit< tt) (product_pos sn bn psn pbn) in
    parts_respelled (parts_quotient (parts_self a.num a.den h) (quotient_of_parts below n) n (product_pos sd bd psd pbd))
    (product_pos a.den (2 * (sn * bn)) h n) (omega arith)

-- one of the parts of a whole number is 0
one_part : (z : ℤ) → (down z ≡ 0) ⊎ (up z ≡ 0)
one_part (pos n) = inl refl
one_part (negsuc n) = inr refl

pub times_minus_one : (f : Fraction) → IsFraction f → IsSame (product_of f (negated fraction_one)) (negated f)
times_minus_one f h =
    same_of_parts (parts_product (parts_self f.num f.den h) (parts_negated parts_one)) (parts_negated (parts_self f.num f.den h)) (sides (up f.num) (down f.num) f.den)
  where
    sides : (u v d : ℕ) → (u * 0 + v * 1) * d + u * (d * 1) ≡ v * (d * 1) + (u * 1 + v * 0) * d
    sides u v d = omega arith

times_one : (f : Fraction) → IsFraction f → IsSame (product_of f fraction_one) f
times_one f h =
    same_of_parts (parts_product (parts_self f.num f.den h) parts_one) (parts_self f.num f.den h) (sides (up f.num) (down f.num) f.den)
  where
    sides : (u v d : ℕ) → (u * 1 + v * 0) * d + v * (d * 1) ≡ u * (d * 1) + (u * 0 + v * 1) * d
    sides u v d = omega arith

-- ---- minus the attraction term, at least
module _ (a A : Fraction) (sn sd bn bd : ℕ) (ha : IsFraction a) (psn : 0 < sn) (psd : 0 < sd) (pbn : 0 < bn) (pbd : 0 < bd) (pA : IsPositive A) where
  abbrev k : Fraction
  k = pull_factor (ratio sn sd) a (ratio bn bd)

  abbrev kd : ℕ
  kd = a.den * (2 * (sn * bn))

  factor : IsParts k (up a.num * sd * bd) (down a.num * sd * bd) kd
  factor = factor_parts a sn sd bn bd ha psn psd pbn pbd

  ratio_parts : IsParts (quotient_of a (ratio bn bd)) (up a.num * bd) (down a.num * bd) (a.den * bn)
  ratio_parts = parts_quotient (parts_self a.num a.den ha) (quotient_of_parts (parts_ratio bn bd pbd) pbn) pbn pbd

  least_at : (sl G L C : ℕ) → 0 < sl → sl * sd ≤ sn * 2 ^ 60 → IsAtMost (quotient_of a (ratio bn bd)) (bits (pos G)) → G * L * 2 ^ 19 ≤ C * sl →
      AtLeast (minus_log_of A) (bits (neg_ℤ (pos L))) → AtLeast (log_of A) (bits (pos 0)) → AtLeast (times_log (negated k) A) (bits (neg_ℤ (pos C)))
  least_at sl G L C some root share room minus least = elim (one_part a.num) [ inl e ↦ grown e | inr e ↦ shrunk e ]
    where
      last : (kn d L C : ℕ) → kn * L ≤ C * d → 0 * (d * 2 ^ 40) + (kn * L + 0 * 0) * 2 ^ 40 ≤ (kn * 0 + 0 * L) * 2 ^ 40 + C * (d * 2 ^ 40)
      last kn d L C l = omega arith

      lost : (kn d C : ℕ) → 0 * (d * 2 ^ 40) + (kn * 0 + 0 * 0) * 2 ^ 40 ≤ (kn * 0 + 0 * 0) * 2 ^ 40 + C * (d * 2 ^ 40)
      lost kn d C = omega arith

      grown : down a.num ≡ 0 → AtLeast (times_log (negated k) A) (bits (neg_ℤ (pos C)))
      grown e =
          let kn = up a.num * sd * bd in
          let f : IsParts k kn 0 kd = parts_respelled factor factor.d_pos (rw e (omega arith)) in
          let h = parts_of_at_most ratio_parts (parts_self (pos G) (2 ^ 40) (lit< tt)) share in
          let o = scaled_below kn kd L C sl G some (factor_below (up a.num) a.den bn bd sn sd sl G (let h' = rw e at h in omega (arith, h')) root) room in
          times_scaled k (negated fraction_one) (negated k) A (bits (neg_ℤ (pos C))) f.den_pos f.den_pos (times_minus_one k f.den_pos) pA
          (lowered (scaled k (minus_log_of A)) (product_of k (bits (neg_ℤ (pos L)))) (bits (neg_ℤ (pos C)))
          (parts_product f (parts_negated (parts_self (pos L) (2 ^ 40) (lit< tt)))) (parts_negated (parts_self (pos C) (2 ^ 40) (lit< tt)))
          (last kn kd L C o)
          (at_least_scales k (minus_log_of A) (bits (neg_ℤ (pos L))) f.den_pos (not_negative f) minus))

      shrunk : up a.num ≡ 0 → AtLeast (times_log (negated k) A) (bits (neg_ℤ (pos C)))
      shrunk e =
          let kn = down a.num * sd * bd in
          let f : IsParts (negated k) kn 0 kd = parts_respelled (parts_negated factor) factor.d_pos (rw e (omega arith)) in
          times_scaled (negated k) fraction_one (negated k) A (bits (neg_ℤ (pos C))) f.den_pos f.den_pos (times_one (negated k) f.den_pos) pA
          (lowered (scaled (negated k) (log_of A)) (product_of (negated k) (bits (pos 0))) (bits (neg_ℤ (pos C)))
          (parts_product f (parts_self (pos 0) (2 ^ 40) (lit< tt))) (parts_negated (parts_self (pos C) (2 ^ 40) (lit< tt)))
          (lost kn kd C)
          (at_least_scales (negated k) (log_of A) (bits (pos 0)) f.den_pos (not_negative f) least))

  most_at : (sh G L : ℕ) (c : ℤ) → 0 < sh → sn * 2 ^ 60 ≤ sh * sd → IsAtMost (bits (pos G)) (quotient_of a (ratio bn bd)) → up c * sh ≤ G * L * 2 ^ 19 + down c * sh →
      AtLeast (log_of A) (bits (pos L)) → AtLeast (times_log (negated (negated k)) A) (bits c)
  most_at sh G L c some root share room least =
      let kn = up a.num * sd * bd in
      let h = parts_of_at_most (parts_self (pos G) (2 ^ 40) (lit< tt)) ratio_parts share in
      let e : down a.num ≡ 0 = none_off (up a.num) (down a.num) a.den bn bd G pbd (one_part a.num) (omega (arith, h)) in
      let f : IsParts k kn 0 kd = parts_respelled factor factor.d_pos (rw e (omega arith)) in
      let h' = rw e at h in
      let o = scaled_above kn kd L (up c) (down c) sh G some (factor_above (up a.num) a.den bn bd sn sd sh G (omega (arith, h')) root) room in
      times_scaled k fraction_one (negated (negated k)) A (bits c) f.den_pos f.den_pos (twice k f.den_pos) pA
      (lowered (scaled k (log_of A)) (product_of k (bits (pos L))) (bits c)
      (parts_product f (parts_self (pos L) (2 ^ 40) (lit< tt))) (parts_self c (2 ^ 40) (lit< tt))
      (last kn kd L (up c) (down c) o)
      (at_least_scales k (log_of A) (bits (pos L)) f.den_pos (not_negative f) least))
    where
      none_off : (u v ad bn bd G : ℕ) → 0 < bd → (v ≡ 0) ⊎ (u ≡ 0) → G * (ad * bn) + v * bd * 2 ^ 40 ≤ u * bd * 2 ^ 40 → v ≡ 0
      none_off u v ad bn bd G h (inl e) l = e
      none_off u zero ad bn bd G h (inr e) l = refl
      none_off u (suc v) ad bn bd G h (inr e) l = let l' = rw e at l in let p = product_pos (suc v) bd (omega arith) h in absurd (omega (arith, l', p))

      last : (kn d L cu cd : ℕ) → cu * d ≤ kn * L + cd * d → cu * (d * 2 ^ 40) + (kn * 0 + 0 * L) * 2 ^ 40 ≤ (kn * L + 0 * 0) * 2 ^ 40 + cd * (d * 2 ^ 40)
      last kn d L cu cd l = omega arith

      twice : (f : Fraction) → IsFraction f → IsSame (product_of f fraction_one) (negated (negated f))
      twice f h =
          same_of_parts (parts_product (parts_self f.num f.den h) parts_one) (parts_negated (parts_negated (parts_self f.num f.den h))) (sides (up f.num) (down f.num) f.den)
        where
          sides : (u v d : ℕ) → (u * 1 + v * 0) * d + v * (d * 1) ≡ u * (d * 1) + (u * 0 + v * 1) * d
          sides u v d = omega arith

-- a logarithm that isn't negative has an upper end that isn't
end_not_negative : (A : Fraction) (l : ℤ) → IsPositive A → AtLeast (minus_log_of A) (bits (neg_ℤ l)) → AtLeast (log_of A) (bits (pos 0)) → pos 0 ≤ℤ l
end_not_negative A l pA minus least =
    by_ratio (λ A. AtLeast (minus_log_of A) (bits (neg_ℤ l)) → AtLeast (log_of A) (bits (pos 0)) → pos 0 ≤ℤ l) A pA
    (λ n d pn pd minus least.
    let o : 0 < 2 ^ 40 = lit< tt in
    let b = bounds_ordered n d n d (bits (pos 0)) (bits l) pn pd pn pd (omega arith) least ((at_most_is_opposite (log_of (ratio n d)) (bits l)).1 minus) in
    let p = parts_of_at_most (parts_sum_at (parts_self (pos 0) (2 ^ 40) o) (parts_self (neg_ℤ l) (2 ^ 40) o)) (parts_self (pos 0) 1 (lit< tt)) b in
    turned l p) minus least
  where
    turned : (l : ℤ) → (0 + up (neg_ℤ l)) * 1 + 0 * 2 ^ 40 ≤ 0 * 2 ^ 40 + (0 + down (neg_ℤ l)) * 1 → pos 0 ≤ℤ l
    turned l p = omega (arith, ints, p, neg_is l)

-- neither has the term that is taken off
product_not_negative : (n d : ℕ) (c : ℤ) → 0 < d → pos n ≤ℤ (c *ℤ pos d) → pos 0 ≤ℤ c
product_not_negative n d (pos c) h l = omega (arith, ints)
product_not_negative n d (negsuc c) h l = let q = le_out (pos n) (negsuc c *ℤ pos d) l in absurd (omega (arith, q, product_is (negsuc c) (pos d), product_pos (suc c) d (omega arith) h))

pub pull_least : (s a b A : Fraction) (sl : ℕ) (g l c : ℤ) → 0 < sl → IsPositive s → IsPositive b → IsFraction a → IsPositive A → IsAtMost (ratio sl (2 ^ 60)) s →
    pos 0 ≤ℤ g → IsAtMost (quotient_of a b) (bits g) → (g *ℤ l *ℤ pos (2 ^ 19)) ≤ℤ (c *ℤ pos sl) →
    AtLeast (minus_log_of A) (bits (neg_ℤ l)) → AtLeast (log_of A) (bits (pos 0)) → AtLeast (times_log (negated (pull_factor s a b)) A) (bits (neg_ℤ c))
pull_least s a b A sl g l c some ps pb ha pA root gp share room minus least =
    by_natural (λ g. IsAtMost (quotient_of a b) (bits g) → (g *ℤ l *ℤ pos (2 ^ 19)) ≤ℤ (c *ℤ pos sl) → AtLeast (times_log (negated (pull_factor s a b)) A) (bits (neg_ℤ c))) g gp
    (λ G share room.
    by_natural (λ l. AtLeast (minus_log_of A) (bits (neg_ℤ l)) → (pos G *ℤ l *ℤ pos (2 ^ 19)) ≤ℤ (c *ℤ pos sl) → AtLeast (times_log (negated (pull_factor s a b)) A) (bits (neg_ℤ c)))
    l (end_not_negative A l pA minus least)
    (λ L minus room.
    by_natural (λ c. pos (G * L * 2 ^ 19) ≤ℤ (c *ℤ pos sl) → AtLeast (times_log (negated (pull_factor s a b)) A) (bits (neg_ℤ c)))
    c (product_not_negative (G * L * 2 ^ 19) sl c some room)
    (λ C room.
    by_ratio (λ s. IsAtMost (ratio sl (2 ^ 60)) s → AtLeast (times_log (negated (pull_factor s a b)) A) (bits (neg_ℤ (pos C)))) s ps
    (λ sn sd psn psd root.
    by_ratio (λ b. IsAtMost (quotient_of a b) (bits (pos G)) → AtLeast (times_log (negated (pull_factor (ratio sn sd) a b)) A) (bits (neg_ℤ (pos C)))) b pb
    (λ bn bd pbn pbd share.
    least_at a A sn sd bn bd ha psn psd pbn pbd pA sl G L C some (order_of_ratios sl (2 ^ 60) sn sd (lit< tt) psd root) share (order_out room) minus least) share) root) room) minus room) share room
  where
    order_out : {m n : ℕ} → pos m ≤ℤ pos n → m ≤ n
    order_out {m} {n} l = let q = le_out (pos m) (pos n) l in omega (arith, q)

-- ---- and at most
-- what the product says of the parts of c, where the logarithm is natural and where it is negative
parts_natural : (G L sh : ℕ) (c : ℤ) → (c *ℤ pos sh) ≤ℤ pos (G * L * 2 ^ 19) → up c * sh ≤ G * L * 2 ^ 19 + down c * sh
parts_natural G L sh c l = let q = le_out (c *ℤ pos sh) (pos (G * L * 2 ^ 19)) l in omega (arith, q, product_is c (pos sh))

parts_negative : (G m sh : ℕ) (c : ℤ) → (c *ℤ pos sh) ≤ℤ (pos G *ℤ negsuc m *ℤ pos (2 ^ 19)) → up c * sh ≤ G * 0 * 2 ^ 19 + down c * sh
parts_negative G m sh c l =
    let q = le_out (c *ℤ pos sh) (pos G *ℤ negsuc m *ℤ pos (2 ^ 19)) l in
    omega (arith, q, product_is c (pos sh), product_is (pos G *ℤ negsuc m) (pos (2 ^ 19)), product_is (pos G) (negsuc m))

pub pull_most : (s a b A : Fraction) (sh : ℕ) (g l c : ℤ) → 0 < sh → IsPositive s → IsPositive b → IsFraction a → IsPositive A → IsAtMost s (ratio sh (2 ^ 60)) →
    pos 0 ≤ℤ g → IsAtMost (bits g) (quotient_of a b) → (c *ℤ pos sh) ≤ℤ (g *ℤ l *ℤ pos (2 ^ 19)) →
    AtLeast (log_of A) (bits l) → AtLeast (log_of A) (bits (pos 0)) → AtMost (times_log (negated (pull_factor s a b)) A) (bits (neg_ℤ c))
pull_most s a b A sh g l c some ps pb ha pA root gp share room least least_none =
    by_natural (λ g. IsAtMost (bits g) (quotient_of a b) → (c *ℤ pos sh) ≤ℤ (g *ℤ l *ℤ pos (2 ^ 19)) → AtMost (times_log (negated (pull_factor s a b)) A) (bits (neg_ℤ c))) g gp
    (λ G share room.
    by_ratio (λ s. IsAtMost s (ratio sh (2 ^ 60)) → AtMost (times_log (negated (pull_factor s a b)) A) (bits (neg_ℤ c))) s ps
    (λ sn sd psn psd root.
    by_ratio (λ b. IsAtMost (bits (pos G)) (quotient_of a b) → AtMost (times_log (negated (pull_factor (ratio sn sd) a b)) A) (bits (neg_ℤ c))) b pb
    (λ bn bd pbn pbd share.
    (at_most_is_opposite (times_log (negated (pull_factor (ratio sn sd) a (ratio bn bd))) A) (bits (neg_ℤ c))).1
    (subst (λ (z : ℤ). AtLeast (times_log (negated (negated (pull_factor (ratio sn sd) a (ratio bn bd)))) A) (bits z)) (back c)
    (by_sign a A sn sd bn bd ha psn psd pbn pbd pA sh G l c some (order_of_ratios sn sd sh (2 ^ 60) psd (lit< tt) root) share room least least_none))) share) root) share room
  where
    back : (z : ℤ) → z ≡ neg_ℤ (neg_ℤ z)
    back z = omega (arith, ints)

    by_sign : (a A : Fraction) (sn sd bn bd : ℕ) → IsFraction a → 0 < sn → 0 < sd → 0 < bn → 0 < bd → IsPositive A → (sh G : ℕ) (l c : ℤ) → 0 < sh → sn * 2 ^ 60 ≤ sh * sd →
        IsAtMost (bits (pos G)) (quotient_of a (ratio bn bd)) → (c *ℤ pos sh) ≤ℤ (pos G *ℤ l *ℤ pos (2 ^ 19)) →
        AtLeast (log_of A) (bits l) → AtLeast (log_of A) (bits (pos 0)) → AtLeast (times_log (negated (negated (pull_factor (ratio sn sd) a (ratio bn bd)))) A) (bits c)
    by_sign a A sn sd bn bd ha psn psd pbn pbd pA sh G (pos L) c some root share room least least_none =
        most_at a A sn sd bn bd ha psn psd pbn pbd pA sh G L c some root share (parts_natural G L sh c room) least
    by_sign a A sn sd bn bd ha psn psd pbn pbd pA sh G (negsuc m) c some root share room least least_none =
        most_at a A sn sd bn bd ha psn psd pbn pbd pA sh G 0 c some root share (parts_negative G m sh c room) least_none
