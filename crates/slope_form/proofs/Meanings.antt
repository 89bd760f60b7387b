-- What a form means, between the clauses and the rules; and a form that doesn't change.
use Rattle.std.proofs.Common.{ℕ, zero, suc, ◌*◌, ◌^◌, ◌<◌, ◌≡◌, refl, ap, ◌∙◌, arith, lit<, ℤ, pos, neg_ℤ, ◌*ℤ◌, ◌≤ℤ◌, ◌<ℤ◌}
use Rattle.std.proofs.Math.IntN.{*ℤ_comm, zero-*ℤ, +ℤ_invr}
use Rattle.std.proofs.lemmas.Int.{ints}
use Rattle.log_laws.specs.Between.{Ends, IsBetween}
use Rattle.log_laws.specs.Fraction.{sum_of, Fraction, IsFraction, negated}
use Rattle.log_laws.specs.Interval.{ends}
use Rattle.log_laws.specs.LogSum.{LogSum, constant}
use Rattle.log_laws.specs.Sums.{int_sum_below}
use Rattle.log_laws.proofs.Exports.{at_least_lowers, constant_at_least, neg-mul, over_den, product_pos, sum-same, sum-times}
use Rattle.slope_form.specs.Forms.{Form, slope_of, constant_form}
use Rattle.slope_form.specs.Meaning.{Steps, IsIn, IsSloped, Means, change}
use Rattle.slope_form.proofs.Capped.{IsCapped}
use Rattle.slope_form.proofs.Slopes.{AreOrdered, Moves, Rises, all_turned, moves_from, moves_most, moves_wider, rises_least}
use Rattle.slope_form.proofs.Spans.{in_fraction}

-- the ends are in order, and none is large
pub record IsForm (f : Form) : Type 0 where
  pub at : f.at.lo ≤ℤ f.at.hi
  pub over : f.over.lo ≤ℤ f.over.hi
  pub by : AreOrdered (slope_of f)
  pub at_top : f.at.hi <ℤ pos (2 ^ 62)
  pub over_top : f.over.hi <ℤ pos (2 ^ 62)

-- ---- between the clauses and the rules
pub moves_of : (f : Form) (d : Steps) (u v : LogSum) → IsForm f → IsSloped f d u v → Moves (change u v) (slope_of f) d
moves_of f d u v o s = moves_from (change u v) (slope_of f) d o.by s.at_least s.at_most

pub sloped : (f : Form) (d : Steps) (u v : LogSum) (by : ℕ → Ends) → IsIn f.at u →
    ((j : ℕ) → j < 4 → ((slope_of f j).lo ≤ℤ (by j).lo) × ((by j).hi ≤ℤ (slope_of f j).hi)) →
    Moves (change u v) by d → IsSloped f d u v
sloped f d u v by i h m = let n = moves_wider (slope_of f) h m in record { at = i; at_least = rises_least n.rises; at_most = moves_most n }

-- ends that a result has
pub same_ends : (lo hi : ℤ) (e : Ends) → IsCapped lo hi e → (e.lo ≤ℤ lo) × (hi ≤ℤ e.hi)
same_ends lo hi e c = let p = c.lo_is in let q = c.hi_is in (rw p (omega (arith, ints)), rw q (omega (arith, ints)))

pub in_same : (v e : Ends) (s : LogSum) → IsCapped v.lo v.hi e → IsIn v s → IsIn e s
in_same v e s c i = record { at_least = rw c.lo_is i.at_least; at_most = rw c.hi_is i.at_most }

-- ---- constants
nothing_rises : (by : ℕ → Ends) (d : Steps) (q : Fraction) → IsFraction q → q.num ≡ pos 0 →
    ((j : ℕ) → j < 4 → IsBetween (by j) 1 (over_den (pos 0) 1)) → Rises (constant q) by d
nothing_rises by d q pq e h = record {
  scale = 1;
  scale_positive = omega arith;
  slope = λ j. pos 0;
  among = h;
  at_least = at_least_lowers (constant q) q (over_den (int_sum_below 4 (λ j. pos 0 *ℤ d.step j)) (1 * (2 ^ 40 * d.den)))
      (product_pos 1 (2 ^ 40 * d.den) (omega arith) (product_pos (2 ^ 40) d.den (lit< tt) d.positive))
      (rw (int_sum-zero 4 d.step, e, zero-*ℤ (pos q.den), zero-*ℤ (pos (1 * (2 ^ 40 * d.den)))) (omega (arith, ints))) (constant_at_least q pq);
}
  where
    int_sum-zero : (n : ℕ) (z : ℕ → ℤ) → int_sum_below n (λ j. pos 0 *ℤ z j) ≡ pos 0
    int_sum-zero n z = sum-same n (λ j. pos 0 *ℤ z j) (λ j. (pos 0 *ℤ pos 0) *ℤ z j) (λ j l. refl) ∙ sum-times n (λ j. pos 0) z (pos 0)
        ∙ *ℤ_comm (int_sum_below n (λ j. pos 0 *ℤ z j)) (pos 0) ∙ zero-*ℤ (int_sum_below n (λ j. pos 0 *ℤ z j))

pub constant_means : (c : Ends) (d : Steps) (x : Fraction) → IsBetween c (2 ^ 40) x → Means (constant_form c) d (constant x) (constant x)
constant_means c d x b =
    let i = in_fraction c x b in
    let q = sum_of x (negated x) in
    let pq = product_pos x.den x.den b.is_fraction b.is_fraction in
    let z : q.num ≡ pos 0 = rw (neg-mul x.num (pos x.den)) (+ℤ_invr (x.num *ℤ pos x.den)) in
    let none = λ (j : ℕ). ends (pos 0) (pos 0) in
    let m : Moves (constant q) none d = record {
      rises = nothing_rises none d q pq z (λ j l. no_slope);
      falls = nothing_rises (all_turned none) d (negated q) pq (ap neg_ℤ z) (λ j l. no_slope);
    } in
    record { sloped = sloped (constant_form c) d (constant x) (constant x) none i inside m; over_centre = i; over_point = i }
  where
    no_slope : IsBetween (ends (pos 0) (pos 0)) 1 (over_den (pos 0) 1)
    no_slope = record { is_fraction = omega arith; above = omega (arith, ints); below = omega (arith, ints) }

    inside : (j : ℕ) → j < 4 → ((slope_of (constant_form c) j).lo ≤ℤ pos 0) × (pos 0 ≤ℤ (slope_of (constant_form c) j).hi)
    inside zero l = (omega (arith, ints), omega (arith, ints))
    inside (suc zero) l = (omega (arith, ints), omega (arith, ints))
    inside (suc (suc zero)) l = (omega (arith, ints), omega (arith, ints))
    inside (suc (suc (suc zero))) l = (omega (arith, ints), omega (arith, ints))
    inside (suc (suc (suc (suc j)))) l = absurd (omega (arith, l))
