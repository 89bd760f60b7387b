-- Fractions between ends: wider ends, and the ends of whole numbers, sums, differences, products,
-- squares and quotients.
use Rattle.std.proofs.Common.{◌≡◌, ℕ, zero, suc, ◌*◌, ◌<◌, ◌≤◌, ℤ, pos, negsuc, ◌+ℤ◌, ◌-ℤ◌, ◌*ℤ◌, neg_ℤ, ◌≤ℤ◌, unsigned_abs, arith, sym, ap, ◌∙◌, mul_assoc}
use Rattle.std.specs.Int.{int_min, int_max}
use Rattle.std.proofs.lemmas.Int.{ints, clamps}
use Rattle.std.proofs.Math.Nat.{mul-pos}
use Rattle.std.proofs.Math.IntN.{*ℤ_comm}
use Rattle.log_laws.specs.Whole.{floor_over, ceil_over, floor_div, ceil_div, positive_part}
use Rattle.log_laws.specs.Fraction.{Fraction, IsFraction, IsSame, sum_of, negated, difference, product_of, quotient_of}
use Rattle.log_laws.specs.Between.{Ends, IsBetween}
use Rattle.log_laws.proofs.Exports.{mul-le_ℤ, le_of_mul-le_ℤ, add-mul_ℤ, neg-mul, ≤ℤ_trans, mul_right_comm_ℤ, scale_scale, scale_turned, add_above, add_below, product_low, product_high}
use Rattle.log_laws.specs.Interval.{ends}
use Rattle.fix_interval.specs.Extremes.{least_of_four, greatest_of_four, nearest_to_zero}
use Rattle.fix_interval.proofs.Cancel.{scales_swapped, product_cancels_low, product_cancels_high}
use Rattle.fix_interval.proofs.Corners.{least_bounds, greatest_bounds}
use Rattle.fix_interval.proofs.Nearest.{square_low, mul-le-squares}
use Rattle.fix_interval.proofs.Division.{quotients_low, quotients_high}

pub IsBetween-wider : (v w : Ends) (s : ℕ) (f : Fraction) → w.lo ≤ℤ v.lo → v.hi ≤ℤ w.hi → IsBetween v s f → IsBetween w s f
IsBetween-wider v w s f l h k = record {
  is_fraction = k.is_fraction;
  above = ≤ℤ_trans (w.lo *ℤ pos f.den) (v.lo *ℤ pos f.den) (f.num *ℤ pos s) (mul-le_ℤ w.lo v.lo f.den l) k.above;
  below = ≤ℤ_trans (f.num *ℤ pos s) (v.hi *ℤ pos f.den) (w.hi *ℤ pos f.den) k.below (mul-le_ℤ v.hi w.hi f.den h);
}

-- the numerator of a sum, scaled
sum_scaled : (p u : ℤ) (q v s : ℕ) → (p *ℤ pos v +ℤ u *ℤ pos q) *ℤ pos s ≡ (p *ℤ pos s) *ℤ pos v +ℤ (u *ℤ pos s) *ℤ pos q
sum_scaled p u q v s = rw (add-mul_ℤ (p *ℤ pos v) (u *ℤ pos q) (pos s), scales_swapped p v s, scales_swapped u q s)

-- another spelling of the fraction
pub IsBetween-same : (e : Ends) (s : ℕ) (f g : Fraction) → IsFraction g → IsSame f g → IsBetween e s f → IsBetween e s g
IsBetween-same e s f g pg q b = record {
  is_fraction = pg;
  above = le_of_mul-le_ℤ (e.lo *ℤ pos g.den) (g.num *ℤ pos s) f.den b.is_fraction
      (rw (mul_right_comm_ℤ e.lo (pos f.den) (pos g.den), mul_right_comm_ℤ g.num (pos f.den) (pos s), ← q, mul_right_comm_ℤ f.num (pos s) (pos g.den))
      (mul-le_ℤ (e.lo *ℤ pos f.den) (f.num *ℤ pos s) g.den b.above));
  below = le_of_mul-le_ℤ (g.num *ℤ pos s) (e.hi *ℤ pos g.den) f.den b.is_fraction
      (rw (mul_right_comm_ℤ e.hi (pos f.den) (pos g.den), mul_right_comm_ℤ g.num (pos f.den) (pos s), ← q, mul_right_comm_ℤ f.num (pos s) (pos g.den))
      (mul-le_ℤ (f.num *ℤ pos s) (e.hi *ℤ pos f.den) g.den b.below));
}

pub IsBetween-sum_of : (v w : Ends) (s : ℕ) (f g : Fraction) → IsBetween v s f → IsBetween w s g →
    IsBetween (ends (v.lo +ℤ w.lo) (v.hi +ℤ w.hi)) s (sum_of f g)
IsBetween-sum_of v w s f g h k = record {
  is_fraction = mul-pos h.is_fraction k.is_fraction;
  above = rw (sum_scaled f.num g.num f.den g.den s) (add_above v.lo w.lo (f.num *ℤ pos s) (g.num *ℤ pos s) f.den g.den h.above k.above);
  below = rw (sum_scaled f.num g.num f.den g.den s) (add_below v.hi w.hi (f.num *ℤ pos s) (g.num *ℤ pos s) f.den g.den h.below k.below);
}

pub IsBetween-negated : (v : Ends) (s : ℕ) (f : Fraction) → IsBetween v s f → IsBetween (ends (neg_ℤ v.hi) (neg_ℤ v.lo)) s (negated f)
IsBetween-negated v s f h = record {
  is_fraction = h.is_fraction;
  above = rw (neg-mul v.hi (pos f.den), neg-mul f.num (pos s)) (omega (arith, ints, h.below));
  below = rw (neg-mul v.lo (pos f.den), neg-mul f.num (pos s)) (omega (arith, ints, h.above));
}

pub IsBetween-difference : (v w : Ends) (s : ℕ) (f g : Fraction) → IsBetween v s f → IsBetween w s g →
    IsBetween (ends (v.lo -ℤ w.hi) (v.hi -ℤ w.lo)) s (difference f g)
IsBetween-difference v w s f g h k =
    IsBetween-sum_of v (ends (neg_ℤ w.hi) (neg_ℤ w.lo)) s f (negated g) h (IsBetween-negated w s g k)

-- the products of the ends over k, rounded outward; r is the product of the scales over k
pub IsBetween-product_of : (v w : Ends) (k : ℕ) (f g : Fraction) (s t r : ℕ) → 0 < k → s * t ≡ r * k → IsBetween v s f → IsBetween w t g →
    IsBetween
    (ends (floor_over (least_of_four (v.lo *ℤ w.lo) (v.lo *ℤ w.hi) (v.hi *ℤ w.lo) (v.hi *ℤ w.hi)) k)
    (ceil_over (greatest_of_four (v.lo *ℤ w.lo) (v.lo *ℤ w.hi) (v.hi *ℤ w.lo) (v.hi *ℤ w.hi)) k)) r (product_of f g)
IsBetween-product_of v w k f g s t r z e h i =
    let l = least_bounds (v.lo *ℤ w.lo) (v.lo *ℤ w.hi) (v.hi *ℤ w.lo) (v.hi *ℤ w.hi) in
    let m = greatest_bounds (v.lo *ℤ w.lo) (v.lo *ℤ w.hi) (v.hi *ℤ w.lo) (v.hi *ℤ w.hi) in
    let least : ℤ = least_of_four (v.lo *ℤ w.lo) (v.lo *ℤ w.hi) (v.hi *ℤ w.lo) (v.hi *ℤ w.hi) in
    let greatest : ℤ = greatest_of_four (v.lo *ℤ w.lo) (v.lo *ℤ w.hi) (v.hi *ℤ w.lo) (v.hi *ℤ w.hi) in
    record {
      is_fraction = mul-pos h.is_fraction i.is_fraction;
      above = product_cancels_low (floor_over least k) f.num g.num k (f.den * g.den) s t r z e
          (product_low v.lo v.hi w.lo w.hi least (f.num *ℤ pos s) (g.num *ℤ pos t) f.den g.den k z h.above h.below i.above i.below l.0 l.1 l.2 l.3);
      below = product_cancels_high (ceil_over greatest k) f.num g.num k (f.den * g.den) s t r z e
          (product_high v.lo v.hi w.lo w.hi greatest (f.num *ℤ pos s) (g.num *ℤ pos t) f.den g.den k z h.above h.below i.above i.below m.0 m.1 m.2 m.3);
    }

-- the squares of the ends over k, rounded outward; r is the square of the scale over k
pub IsBetween-square : (v : Ends) (k : ℕ) (f : Fraction) (s r : ℕ) → 0 < k → s * s ≡ r * k → IsBetween v s f →
    IsBetween
    (ends (floor_over (nearest_to_zero v.lo v.hi *ℤ nearest_to_zero v.lo v.hi) k) (ceil_over (int_max (v.lo *ℤ v.lo) (v.hi *ℤ v.hi)) k))
    r (product_of f f)
IsBetween-square v k f s r z e h =
    let least : ℤ = nearest_to_zero v.lo v.hi *ℤ nearest_to_zero v.lo v.hi in
    let greatest : ℤ = int_max (v.lo *ℤ v.lo) (v.hi *ℤ v.hi) in
    let x : ℤ = f.num *ℤ pos s in
    let a : (v.lo *ℤ v.lo) ≤ℤ greatest = omega (arith, ints, clamps) in
    let b : (v.hi *ℤ v.hi) ≤ℤ greatest = omega (arith, ints, clamps) in
    let c : (v.hi *ℤ v.lo) ≤ℤ greatest = rw (*ℤ_comm v.hi v.lo) (mul-le-squares v.lo v.hi) in
    record {
      is_fraction = mul-pos h.is_fraction h.is_fraction;
      above = product_cancels_low (floor_over least k) f.num f.num k (f.den * f.den) s s r z e (square_low v.lo v.hi x f.den k z h.above h.below);
      below = product_cancels_high (ceil_over greatest k) f.num f.num k (f.den * f.den) s s r z e
          (product_high v.lo v.hi v.lo v.hi greatest x x f.den f.den k z h.above h.below h.above h.below a (mul-le-squares v.lo v.hi) c b);
    }

-- a value over positive ends has a positive numerator
divisor_low : (b u : ℤ) (v t : ℕ) → pos 1 ≤ℤ b → (b *ℤ pos v) ≤ℤ (u *ℤ pos t) → unsigned_abs b * v ≤ positive_part u * t
divisor_low (pos b) (pos u) v t z h = omega (arith, ints)
divisor_low (pos b) (negsuc u) v t z h = omega (arith, ints)
divisor_low (negsuc b) u v t z h = absurd (omega (arith, ints))

divisor_high : (b u : ℤ) (v t : ℕ) → pos 1 ≤ℤ b → (u *ℤ pos t) ≤ℤ (b *ℤ pos v) → positive_part u * t ≤ unsigned_abs b * v
divisor_high (pos b) (pos u) v t z h = omega (arith, ints)
divisor_high (pos b) (negsuc u) v t z h = omega arith
divisor_high (negsuc b) u v t z h = absurd (omega (arith, ints))

-- both factors of a positive number are positive
factor_positive : (m n : ℕ) → 0 < m * n → 0 < m
factor_positive zero n h = absurd (omega (arith, h))
factor_positive (suc m) n h = omega arith

-- p times s times k, over v, is p over v times r, times t
quotient_scaled : (p : ℤ) (v s k r t : ℕ) → r * t ≡ s * k → ((p *ℤ pos s) *ℤ pos k) *ℤ pos v ≡ ((p *ℤ pos v) *ℤ pos r) *ℤ pos t
quotient_scaled p v s k r t e =
    ap (λ (z : ℤ). z *ℤ pos v) (scale_scale p s k) ∙ scale_turned p v (s * k) ∙ ap (λ (n : ℕ). p *ℤ pos (v * n)) (sym e)
    ∙ sym (scale_scale p v (r * t)) ∙ sym (scale_scale (p *ℤ pos v) r t)

-- the quotients of the ends times k, rounded outward; r is the scale of the first over that of the second, times k
pub IsBetween-quotient_of : (v w : Ends) (k : ℕ) (f g : Fraction) (s t r : ℕ) → pos 1 ≤ℤ w.lo → w.lo ≤ℤ w.hi → r * t ≡ s * k →
    IsBetween v s f → IsBetween w t g →
    IsBetween
    (ends (int_min (floor_div (v.lo *ℤ pos k) w.lo) (floor_div (v.lo *ℤ pos k) w.hi))
    (int_max (ceil_div (v.hi *ℤ pos k) w.lo) (ceil_div (v.hi *ℤ pos k) w.hi))) r (quotient_of f g)
IsBetween-quotient_of v w k f g s t r one order e h i =
    let u : ℕ = positive_part g.num in
    let x : ℤ = f.num *ℤ pos s in
    let b : ℕ = unsigned_abs w.lo in
    let c : ℕ = unsigned_abs w.hi in
    let lowest : ℤ = int_min (floor_div (v.lo *ℤ pos k) w.lo) (floor_div (v.lo *ℤ pos k) w.hi) in
    let greatest : ℤ = int_max (ceil_div (v.hi *ℤ pos k) w.lo) (ceil_div (v.hi *ℤ pos k) w.hi) in
    let above_zero : 0 < b = omega (arith, ints) in
    let low : b * g.den ≤ u * t = divisor_low w.lo g.num g.den t one i.above in
    let high : u * t ≤ c * g.den = divisor_high w.hi g.num g.den t (≤ℤ_trans (pos 1) w.lo w.hi one order) i.below in
    let some : 0 < u * t = omega (arith, low, mul-pos above_zero i.is_fraction) in
    let t_positive : 0 < t = factor_positive t u (omega (arith, some)) in
    record {
      is_fraction = mul-pos h.is_fraction (factor_positive u t some);
      above = le_of_mul-le_ℤ (lowest *ℤ pos (f.den * u)) ((f.num *ℤ pos g.den) *ℤ pos r) t t_positive
          (rw (scale_scale lowest (f.den * u) t, mul_assoc f.den u t, ← quotient_scaled f.num g.den s k r t e)
          (quotients_low v.lo x k b c (u * t) f.den g.den above_zero low high h.above));
      below = le_of_mul-le_ℤ ((f.num *ℤ pos g.den) *ℤ pos r) (greatest *ℤ pos (f.den * u)) t t_positive
          (rw (scale_scale greatest (f.den * u) t, mul_assoc f.den u t, ← quotient_scaled f.num g.den s k r t e)
          (quotients_high v.hi x k b c (u * t) f.den g.den above_zero low high h.below));
    }
