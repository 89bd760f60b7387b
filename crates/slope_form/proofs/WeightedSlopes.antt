-- A sum of numbers times the steps of the fractions: it moves by the numbers' differences from the last.
use Rattle.std.proofs.Common.{ℕ, zero, suc, ◌+◌, ◌*◌, ◌^◌, ◌≤◌, ◌<◌, ◌≡◌, cond, ◌==◌, refl, sym, ap, arith, lit<, inl, inr, ℤ, pos, ◌+ℤ◌, ◌*ℤ◌}
use Rattle.std.proofs.Math.IntN.{zero-*ℤ}
use Rattle.std.proofs.lemmas.Bool.{cases_lt}
use Rattle.std.proofs.lemmas.Int.{ints}
use borrow.Author.Differences.{up, down, product_is, sum_is_lem}
use Rattle.log_laws.specs.Between.{Ends, IsBetween}
use Rattle.log_laws.specs.Fraction.{Fraction, IsFraction, IsSame, product_of}
use Rattle.log_laws.specs.LogSum.{constant}
use Rattle.log_laws.specs.Sums.{int_sum_below, fraction_sum_below}
use Rattle.log_laws.proofs.Exports.{IsParts, mul-le_ℤ, over_den, parts_of_same, parts_product, parts_self, parts_sum, product_pos, same_of_parts, scale_scale, sum_fraction}
use Rattle.slope_form.specs.Meaning.{Steps}
use Rattle.slope_form.proofs.Coordinates.{other_place, same_place}
use Rattle.slope_form.proofs.LinearSlopes.{free_ends, linear_moves}
use Rattle.slope_form.proofs.Slopes.{Moves}

-- ---- a common denominator of n fractions
pub record Common (n : ℕ) (f : ℕ → Fraction) : Type 0 where
  pub scale : ℕ
  pub positive : 0 < scale
  pub part : ℕ → ℕ
  pub is : (i : ℕ) → i < n → (f i).den * part i ≡ scale

pub common : (n : ℕ) (f : ℕ → Fraction) → ((i : ℕ) → i < n → IsFraction (f i)) → Common n f
common zero f h = record { scale = 1; positive = omega arith; part = λ i. 0; is = λ i l. absurd (omega (arith, l)) }
common (suc n) f h =
    let c = common n f (λ i l. h i (omega (arith, l))) in
    record {
      scale = c.scale * (f n).den;
      positive = product_pos c.scale (f n).den c.positive (h n (omega arith));
      part = λ i. cond (i == n) c.scale (c.part i * (f n).den);
      is = λ i l. elim (cases_lt i n) [
        | inl k ↦ rw (other_place n i k) (earlier (f i).den (c.part i) (f n).den c.scale (c.is i k))
        | inr k ↦ let e : i ≡ n = omega (arith, l, k) in rw (e, same_place n) (omega arith)
      ];
    }
  where
    earlier : (a b c s : ℕ) → a * b ≡ s → a * (b * c) ≡ s * c
    earlier a b c s e = let k : a * b * c ≡ s * c = ap (λ (x : ℕ). x * c) e in omega arith

-- the coefficients over it, in 2^-40
abbrev coefficient : (ℕ → Fraction) → (ℕ → ℕ) → ℕ → ℤ
coefficient f part i = (f i).num *ℤ pos (2 ^ 40 * part i)

coefficient_among : (v : Ends) (num : ℤ) (den part scale : ℕ) → 0 < scale → den * part ≡ scale → IsBetween v (2 ^ 40) (over_den num den) →
    IsBetween v 1 (over_den (num *ℤ pos (2 ^ 40 * part)) scale)
coefficient_among v num den part scale ps e b =
    let l = mul-le_ℤ (v.lo *ℤ pos den) (num *ℤ pos (2 ^ 40)) part b.above in
    let h = mul-le_ℤ (num *ℤ pos (2 ^ 40)) (v.hi *ℤ pos den) part b.below in
    let l' = rw (scale_scale v.lo den part, scale_scale num (2 ^ 40) part, e) at l in
    let h' = rw (scale_scale v.hi den part, scale_scale num (2 ^ 40) part, e) at h in
    record { is_fraction = ps; above = omega (arith, ints, l'); below = omega (arith, ints, h') }

coefficient_same : (f : Fraction) (part scale : ℕ) → IsFraction f → 0 < scale → f.den * part ≡ scale →
    IsParts f (up (f.num *ℤ pos (2 ^ 40 * part))) (down (f.num *ℤ pos (2 ^ 40 * part))) (scale * 2 ^ 40)
coefficient_same f part scale pf ps e =
    record {
      den_pos = pf;
      d_pos = product_pos scale (2 ^ 40) ps (lit< tt);
      is = numbers (up f.num) (down f.num) f.den (up (f.num *ℤ pos (2 ^ 40 * part))) (down (f.num *ℤ pos (2 ^ 40 * part))) part scale (2 ^ 40) e
          (omega (arith, product_is f.num (pos (2 ^ 40 * part)))) (omega (arith, product_is f.num (pos (2 ^ 40 * part))));
    }
  where
    numbers : (u v d a b p s n : ℕ) → d * p ≡ s → a ≡ u * (n * p) → b ≡ v * (n * p) → u * (s * n) + b * d ≡ v * (s * n) + a * d
    numbers u v d a b p s n e x y = rw (x, y, ← e) (omega arith)

-- ---- a weighted sum of steps
-- its value over the common denominators
weighted_value : (n : ℕ) (f t : ℕ → Fraction) (c z : ℕ → ℤ) (s m : ℕ) → 0 < s → 0 < m → ((i : ℕ) → i < n → IsFraction (t i)) →
    ((i : ℕ) → i < n → IsParts (f i) (up (c i)) (down (c i)) s) →
    ((i : ℕ) → i < n → IsSame (t i) (over_den (z i) m)) →
    IsSame (fraction_sum_below n (λ i. product_of (f i) (t i))) (over_den (int_sum_below n (λ i. c i *ℤ z i)) (s * m))
unfolding fraction_sum_below int_sum_below
weighted_value zero f t c z s m ps pm ft pf pt = zero_same (s * m)
  where
    zero_same : (k : ℕ) → pos 0 *ℤ pos k ≡ pos 0 *ℤ pos 1
    zero_same k = rw (zero-*ℤ (pos k), zero-*ℤ (pos 1)) refl
weighted_value (suc n) f t c z s m ps pm ft pf pt =
    let S = fraction_sum_below n (λ i. product_of (f i) (t i)) in
    let T = int_sum_below n (λ i. c i *ℤ z i) in
    let psm = product_pos s m ps pm in
    let pS = sum_fraction n (λ i. product_of (f i) (t i))
    (λ i l. product_pos (f i).den (t i).den (pf i (omega (arith, l))).den_pos (ft i (omega (arith, l)))) in
    let before = weighted_value n f t c z s m ps pm (λ i l. ft i (omega (arith, l))) (λ i l. pf i (omega (arith, l)))
    (λ i l. pt i (omega (arith, l))) in
    let xS = parts_of_same {f = over_den T (s * m)} {g = S} pS (sym before) (parts_self T (s * m) psm) in
    let xt = parts_of_same {f = over_den (z n) m} {g = t n} (ft n (omega arith)) (sym (pt n (omega arith))) (parts_self (z n) m pm) in
    let sum = T +ℤ c n *ℤ z n in
    same_of_parts (parts_sum xS (parts_product (pf n (omega arith)) xt)) (parts_self sum (s * m) psm)
    (numbers (up T) (down T) (up (c n)) (down (c n)) (up (z n)) (down (z n)) (up sum) (down sum) s m
    (omega (arith, sum_is_lem T (c n *ℤ z n), product_is (c n) (z n))))
  where
    numbers : (ut vt uc vc uz vz ux vx n m : ℕ) → ux + (vt + (uc * vz + vc * uz)) ≡ vx + (ut + (uc * uz + vc * vz)) →
        (ut * (n * m) + (uc * uz + vc * vz) * (n * m)) * (n * m) + vx * ((n * m) * (n * m))
        ≡ ux * ((n * m) * (n * m)) + (vt * (n * m) + (uc * vz + vc * uz) * (n * m)) * (n * m)
    numbers ut vt uc vc uz vz ux vx n m e = let k : (ux + (vt + (uc * vz + vc * uz))) * (n * m * (n * m)) ≡ (vx + (ut + (uc * uz + vc * vz))) * (n * m * (n * m)) = ap (λ (w : ℕ). w * (n * m * (n * m))) e in omega arith

-- numbers f of the components times the steps t of their fractions
pub weighted_moves : (m : ℕ) (v : ℕ → Ends) (f t : ℕ → Fraction) (z : ℕ → ℤ) (d : Steps) → m ≤ 3 →
    ((i : ℕ) → i < suc m → IsBetween (v i) (2 ^ 40) (f i)) →
    ((i : ℕ) → i < suc m → IsFraction (t i)) → ((i : ℕ) → i < suc m → IsSame (t i) (over_den (z i) d.den)) → ((j : ℕ) → j < m → d.step j ≡ z j) →
    int_sum_below (suc m) z ≡ pos 0 →
    Moves (constant (fraction_sum_below (suc m) (λ i. product_of (f i) (t i)))) (free_ends m v) d
weighted_moves m v f t z d h among ft is e s =
    let k = common (suc m) f (λ i l. (among i l).is_fraction) in
    let c = coefficient f k.part in
    let b = fraction_sum_below (suc m) (λ i. product_of (f i) (t i)) in
    let pb = sum_fraction (suc m) (λ i. product_of (f i) (t i)) (λ i l. product_pos (f i).den (t i).den (among i l).is_fraction (ft i l)) in
    let q = weighted_value (suc m) f t c z (k.scale * 2 ^ 40) d.den (product_pos k.scale (2 ^ 40) k.positive (lit< tt)) d.positive ft
    (λ i l. coefficient_same (f i) (k.part i) k.scale (among i l).is_fraction k.positive (k.is i l)) is in
    let a : k.scale * 2 ^ 40 * d.den ≡ k.scale * (2 ^ 40 * d.den) = omega arith in
    let q' = rw a at q in
    linear_moves m v c z k.scale d b h k.positive
    (λ i l. coefficient_among (v i) (f i).num (f i).den (k.part i) k.scale k.positive (k.is i l) (among i l)) e s pb
    (rw q' (omega (arith, ints))) (rw q' (omega (arith, ints)))
