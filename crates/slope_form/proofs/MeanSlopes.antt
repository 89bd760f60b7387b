-- Means over the components move by the numbers' differences from the last; the mean over all pairs by the sums of its rows at the
-- centre and at the point.
use Rattle.std.proofs.Common.{ℕ, zero, suc, ◌^◌, ◌≤◌, ◌<◌, ◌≡◌, refl, arith, ℤ, pos}
use Rattle.std.proofs.lemmas.Int.{ints}
use Rattle.log_laws.specs.Between.{Ends, IsBetween}
use Rattle.log_laws.specs.Fraction.{Fraction, IsFraction, IsSame, product_of, difference, negated}
use Rattle.log_laws.specs.Interval.{ends}
use Rattle.log_laws.specs.LogSum.{constant}
use Rattle.log_laws.specs.Sums.{int_sum_below, fraction_sum_below}
use Rattle.log_laws.proofs.Exports.{at_least-same, change_of_mean, change_of_pairs, mean, mean_fraction, over_den, pair_mean, parts_negated, parts_of_same, parts_self, product_pos, row_sum, same_of_parts}
use Rattle.fix_interval.proofs.Exports.{IsBetween-sum_of}
use Rattle.slope_form.specs.Meaning.{Steps}
use Rattle.slope_form.proofs.LinearSlopes.{free_ends}
use Rattle.slope_form.proofs.Slopes.{Moves, rises_as}
use Rattle.slope_form.proofs.WeightedSlopes.{weighted_moves}

-- ---- the same number under another spelling
same_negated : (a b : Fraction) → IsFraction a → IsFraction b → IsSame a b → IsSame (negated a) (negated b)
same_negated a b pa pb e =
    same_of_parts (parts_negated (parts_self a.num a.den pa)) (parts_negated (parts_of_same {f = a} {g = b} pb e (parts_self a.num a.den pa))) refl

pub moves_same : {v : ℕ → Ends} {d : Steps} (a b : Fraction) → IsFraction a → IsFraction b → IsSame a b → Moves (constant a) v d →
    Moves (constant b) v d
moves_same {v} {d} a b pa pb e m = record {
  rises = rises_as (constant b) (λ r x. at_least-same (constant a) (constant b) r (record { fraction = pb; rest = e; terms = tt }) x) m.rises;
  falls = rises_as (constant (negated b))
      (λ r x. at_least-same (constant (negated a)) (constant (negated b)) r (record { fraction = pb; rest = same_negated a b pa pb e; terms = tt }) x) m.falls;
}

-- ---- means
-- with fractions y at the centre and x at the point, whose differences are the steps
pub mean_moves_by : (m : ℕ) (v : ℕ → Ends) (f x y : ℕ → Fraction) (z : ℕ → ℤ) (d : Steps) → m ≤ 3 →
    ((i : ℕ) → i < suc m → IsBetween (v i) (2 ^ 40) (f i)) →
    ((i : ℕ) → i < suc m → IsFraction (x i)) → ((i : ℕ) → i < suc m → IsFraction (y i)) →
    ((i : ℕ) → i < suc m → IsSame (difference (x i) (y i)) (over_den (z i) d.den)) →
    ((j : ℕ) → j < m → d.step j ≡ z j) → int_sum_below (suc m) z ≡ pos 0 →
    Moves (constant (difference (mean (suc m) x f) (mean (suc m) y f))) (free_ends m v) d
mean_moves_by m v f x y z d h among px py is e s =
    let t = λ (i : ℕ). difference (x i) (y i) in
    let pt = λ (i : ℕ) (l : i < suc m). product_pos (x i).den (y i).den (px i l) (py i l) in
    let pf = λ (i : ℕ) (l : i < suc m). (among i l).is_fraction in
    moves_same (fraction_sum_below (suc m) (λ i. product_of (f i) (t i))) (difference (mean (suc m) x f) (mean (suc m) y f))
    (mean_fraction (suc m) f t pf pt)
    (product_pos (mean (suc m) x f).den (mean (suc m) y f).den (mean_fraction (suc m) x f px pf) (mean_fraction (suc m) y f py pf))
    (change_of_mean (suc m) f x y pf px py)
    (weighted_moves m v f t z d h among pt is e s)

-- where the row sums lie between ends
pub pair_moves_by : (m : ℕ) (v : ℕ → Ends) (x y : ℕ → Fraction) (a : ℕ → ℕ → Fraction) (z : ℕ → ℤ) (d : Steps) → m ≤ 3 →
    ((i : ℕ) → i < suc m → IsBetween (v i) (2 ^ 40) (row_sum (suc m) x y a i)) →
    ((i : ℕ) → i < suc m → IsFraction (x i)) → ((i : ℕ) → i < suc m → IsFraction (y i)) → ((i j : ℕ) → i < suc m → j < suc m → IsFraction (a i j)) →
    ((i j : ℕ) → a i j ≡ a j i) →
    ((i : ℕ) → i < suc m → IsSame (difference (x i) (y i)) (over_den (z i) d.den)) →
    ((j : ℕ) → j < m → d.step j ≡ z j) → int_sum_below (suc m) z ≡ pos 0 →
    Moves (constant (difference (pair_mean (suc m) x a) (pair_mean (suc m) y a))) (free_ends m v) d
pair_moves_by m v x y a z d h among px py pa either is e s =
    let n = suc m in
    let t = λ (i : ℕ). difference (x i) (y i) in
    let pt = λ (i : ℕ) (l : i < n). product_pos (x i).den (y i).den (px i l) (py i l) in
    let f = row_sum n x y a in
    let pf = λ (i : ℕ) (l : i < n). (among i l).is_fraction in
    let pair = λ (w : ℕ → Fraction) (pw : (i : ℕ) → i < n → IsFraction (w i)). mean_fraction n w (λ i. mean n w (a i)) pw (λ i l. mean_fraction n w (a i) pw (λ j q. pa i j l q)) in
    moves_same (fraction_sum_below n (λ i. product_of (f i) (t i))) (difference (pair_mean n x a) (pair_mean n y a))
    (mean_fraction n f t pf pt) (product_pos (pair_mean n x a).den (pair_mean n y a).den (pair x px) (pair y py))
    (change_of_pairs n x y a px py pa either)
    (weighted_moves m v f t z d h among pt is e s)

-- ---- a mean between ends
pub mean_between : (n : ℕ) (x f : ℕ → Fraction) (e : ℕ → Ends) → ((i : ℕ) → i < n → IsBetween (e i) (2 ^ 40) (product_of (x i) (f i))) →
    IsBetween (ends (int_sum_below n (λ i. (e i).lo)) (int_sum_below n (λ i. (e i).hi))) (2 ^ 40) (fraction_sum_below n (λ i. product_of (x i) (f i)))
unfolding fraction_sum_below int_sum_below
mean_between zero x f e h = record { is_fraction = omega arith; above = omega (arith, ints); below = omega (arith, ints) }
mean_between (suc n) x f e h =
    IsBetween-sum_of (ends (int_sum_below n (λ i. (e i).lo)) (int_sum_below n (λ i. (e i).hi))) (e n) (2 ^ 40)
    (fraction_sum_below n (λ i. product_of (x i) (f i))) (product_of (x n) (f n))
    (mean_between n x f e (λ i l. h i (omega (arith, l)))) (h n (omega arith))
