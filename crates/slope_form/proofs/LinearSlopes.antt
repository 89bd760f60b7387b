-- A linear function of the fractions: over steps that add up to 0, its slope in each free fraction is its coefficient there less
-- that of the last fraction.
use Rattle.std.proofs.Common.{ℕ, zero, suc, ◌+◌, ◌-◌, ◌*◌, ◌^◌, ◌≤◌, ◌<◌, ◌≡◌, cond, nat_lt, true, false, refl, sym, ap, ◌∙◌, arith, lit<, inl, inr, ℤ, pos, neg_ℤ, ◌+ℤ◌, ◌-ℤ◌, ◌*ℤ◌, ◌≤ℤ◌}
use Rattle.std.proofs.Math.IntN.{*ℤ_comm, zero-*ℤ}
use Rattle.std.proofs.lemmas.Bool.{cases_lt}
use Rattle.std.proofs.lemmas.Int.{ints}
use borrow.Author.Differences.{product_is}
use Rattle.log_laws.specs.Between.{Ends, IsBetween}
use Rattle.log_laws.specs.Fraction.{Fraction, IsFraction, IsAtMost, negated}
use Rattle.log_laws.specs.Interval.{ends}
use Rattle.log_laws.specs.LogSum.{constant}
use Rattle.log_laws.specs.Sums.{int_sum_below}
use Rattle.log_laws.proofs.Exports.{add-mul_ℤ, at_least_lowers, constant_at_least, mul-add_ℤ, neg-mul, over_den, product_pos, sum-same, sum-times}
use Rattle.fix_interval.proofs.Exports.{IsBetween-negated}
use Rattle.slope_form.specs.Meaning.{Steps}
use Rattle.slope_form.proofs.Slopes.{Moves, total}

-- the slopes: of a coefficient in each free fraction less that of the last one
abbrev pub free_slope : ℕ → (ℕ → ℤ) → ℕ → ℤ
free_slope m c j = cond (nat_lt j m) (c j -ℤ c m) (pos 0)

abbrev pub free_ends : ℕ → (ℕ → Ends) → ℕ → Ends
free_ends m c j = cond (nat_lt j m) (ends ((c j).lo -ℤ (c m).hi) ((c j).hi -ℤ (c m).lo)) (ends (pos 0) (pos 0))

yes : (j m : ℕ) → j < m → nat_lt j m ≡ true
yes j m h = grind (arith, h)

no : (j m : ℕ) → m ≤ j → nat_lt j m ≡ false
no j m h = grind (arith, h)

-- what lies past m counts for nothing
cut : (m k : ℕ) (f : ℕ → ℤ) → ((j : ℕ) → m ≤ j → f j ≡ pos 0) → int_sum_below (k + m) f ≡ int_sum_below m f
unfolding int_sum_below
cut m zero f h = let e : 0 + m ≡ m = omega arith in rw e refl
cut m (suc k) f h =
    let e : suc k + m ≡ suc (k + m) = omega arith in
    rw (e, h (k + m) (omega arith), cut m k f h) (plus_zero (int_sum_below m f))
  where
    plus_zero : (z : ℤ) → z +ℤ pos 0 ≡ z
    plus_zero z = omega (arith, ints)

-- less the last coefficient
less_last : (m : ℕ) (c z : ℕ → ℤ) (l : ℤ) →
    int_sum_below m (λ j. (c j -ℤ l) *ℤ z j) ≡ int_sum_below m (λ j. c j *ℤ z j) +ℤ neg_ℤ (l *ℤ int_sum_below m z)
unfolding int_sum_below
less_last zero c z l = rw (*ℤ_comm l (pos 0), zero-*ℤ l) refl
less_last (suc m) c z l =
    rw (less_last m c z l, add-mul_ℤ (c m) (neg_ℤ l) (z m), neg-mul l (z m), mul-add_ℤ l (int_sum_below m z) (z m)) (omega (arith, ints))

-- the change of a linear function, over steps of which the last takes off what the others add
pub linear_total : (m : ℕ) (c z : ℕ → ℤ) (d : Steps) → m ≤ 3 → ((j : ℕ) → j < m → d.step j ≡ z j) → int_sum_below (suc m) z ≡ pos 0 →
    total (free_slope m c) d ≡ int_sum_below (suc m) (λ i. c i *ℤ z i)
unfolding int_sum_below
linear_total m c z d h e s =
    four_is m (λ j. free_slope m c j *ℤ d.step j) h (λ j l. rw (no j m l) (zero-*ℤ (d.step j)))
    ∙ sum-same m (λ j. free_slope m c j *ℤ d.step j) (λ j. (c j -ℤ c m) *ℤ z j) (λ j l. rw (yes j m l, e j l) refl)
    ∙ less_last m c z (c m)
    ∙ last (int_sum_below m (λ j. c j *ℤ z j)) (int_sum_below m z) (c m) (z m) s
  where
    four_is : (m : ℕ) (f : ℕ → ℤ) → m ≤ 3 → ((j : ℕ) → m ≤ j → f j ≡ pos 0) → int_sum_below 4 f ≡ int_sum_below m f
    four_is m f h g = let e : 4 ≡ (4 - m) + m = omega (arith, h) in ap (λ (k : ℕ). int_sum_below k f) e ∙ cut m (4 - m) f g

    last : (a b l t : ℤ) → b +ℤ t ≡ pos 0 → a +ℤ neg_ℤ (l *ℤ b) ≡ a +ℤ l *ℤ t
    last a b l t s =
        let z : l *ℤ b +ℤ l *ℤ t ≡ pos 0 = sym (mul-add_ℤ l b t) ∙ ap (λ (k : ℤ). l *ℤ k) s ∙ *ℤ_comm l (pos 0) ∙ zero-*ℤ l in
        omega (arith, ints, z)

-- between the ends
free_among : (m : ℕ) (v : ℕ → Ends) (c : ℕ → ℤ) (n : ℕ) → 0 < n → ((i : ℕ) → i < suc m → IsBetween (v i) 1 (over_den (c i) n)) → (j : ℕ) →
    IsBetween (free_ends m v j) 1 (over_den (free_slope m c j) n)
free_among m v c n pn h j = elim (cases_lt j m) [ inl l ↦ rw (yes j m l) (inside l) | inr l ↦ rw (no j m l) nothing ]
  where
    nothing : IsBetween (ends (pos 0) (pos 0)) 1 (over_den (pos 0) n)
    nothing = record { is_fraction = pn; above = omega (arith, ints); below = omega (arith, ints) }

    inside : j < m → IsBetween (ends ((v j).lo -ℤ (v m).hi) ((v j).hi -ℤ (v m).lo)) 1 (over_den (c j -ℤ c m) n)
    inside l =
        let a = h j (omega (arith, l)) in
        let b = h m (omega arith) in
        record {
          is_fraction = pn;
          above = rw (add-mul_ℤ (v j).lo (neg_ℤ (v m).hi) (pos n), neg-mul (v m).hi (pos n)) (omega (arith, ints, a.above, b.below));
          below = rw (add-mul_ℤ (v j).hi (neg_ℤ (v m).lo) (pos n), neg-mul (v m).lo (pos n)) (omega (arith, ints, a.below, b.above));
        }

-- a number b that is a sum of steps times slopes moves by these slopes
pub exact_moves : (v : ℕ → Ends) (c : ℕ → ℤ) (n : ℕ) (d : Steps) (b : Fraction) → 0 < n → ((j : ℕ) → j < 4 → IsBetween (v j) 1 (over_den (c j) n)) →
    IsFraction b →
    IsAtMost (over_den (total c d) (n * (2 ^ 40 * d.den))) b → IsAtMost b (over_den (total c d) (n * (2 ^ 40 * d.den))) → Moves (constant b) v d
exact_moves v c n d b pn among pb low high = record {
  rises = record {
    scale = n;
    scale_positive = pn;
    slope = c;
    among = among;
    at_least = at_least_lowers (constant b) b (over_den (total c d) (n * (2 ^ 40 * d.den))) pd low (constant_at_least b pb);
  };
  falls = record {
    scale = n;
    scale_positive = pn;
    slope = λ j. c j *ℤ neg_ℤ (pos 1);
    among = λ j l. turned_among (v j) (c j) (among j l);
    at_least = rw (sum-times 4 c d.step (neg_ℤ (pos 1)))
        (at_least_lowers (constant (negated b)) (negated b) (over_den (total c d *ℤ neg_ℤ (pos 1)) (n * (2 ^ 40 * d.den))) pd
        (turned_order (total c d) b.num b.den (n * (2 ^ 40 * d.den)) high) (constant_at_least (negated b) pb));
  };
}
  where
    pd : 0 < n * (2 ^ 40 * d.den)
    pd = product_pos n (2 ^ 40 * d.den) pn (product_pos (2 ^ 40) d.den (lit< tt) d.positive)

    times_minus : (z : ℤ) → z *ℤ neg_ℤ (pos 1) ≡ neg_ℤ z
    times_minus z = *ℤ_comm z (neg_ℤ (pos 1)) ∙ neg-mul (pos 1) z ∙ ap neg_ℤ (one_times z)
      where
        one_times : (z : ℤ) → pos 1 *ℤ z ≡ z
        one_times z = omega (arith, ints, product_is (pos 1) z)

    turned_among : (v : Ends) (s : ℤ) → IsBetween v 1 (over_den s n) →
        IsBetween (ends (neg_ℤ v.hi) (neg_ℤ v.lo)) 1 (over_den (s *ℤ neg_ℤ (pos 1)) n)
    turned_among v s x = rw (times_minus s) (IsBetween-negated v 1 (over_den s n) x)

    turned_order : (t x : ℤ) (p q : ℕ) → (x *ℤ pos q) ≤ℤ (t *ℤ pos p) → ((t *ℤ neg_ℤ (pos 1)) *ℤ pos p) ≤ℤ (neg_ℤ x *ℤ pos q)
    turned_order t x p q l = rw (times_minus t, neg-mul t (pos p), neg-mul x (pos q)) (omega (arith, ints, l))

-- the change of a linear function
pub linear_moves : (m : ℕ) (v : ℕ → Ends) (c z : ℕ → ℤ) (n : ℕ) (d : Steps) (b : Fraction) → m ≤ 3 → 0 < n →
    ((i : ℕ) → i < suc m → IsBetween (v i) 1 (over_den (c i) n)) →
    ((j : ℕ) → j < m → d.step j ≡ z j) → int_sum_below (suc m) z ≡ pos 0 → IsFraction b →
    IsAtMost (over_den (int_sum_below (suc m) (λ i. c i *ℤ z i)) (n * (2 ^ 40 * d.den))) b →
    IsAtMost b (over_den (int_sum_below (suc m) (λ i. c i *ℤ z i)) (n * (2 ^ 40 * d.den))) →
    Moves (constant b) (free_ends m v) d
linear_moves m v c z n d b h pn among e s pb low high =
    let t = linear_total m c z d h e s in
    exact_moves (free_ends m v) (free_slope m c) n d b pn (λ j l. free_among m v c n pn among j) pb (rw t low) (rw t high)
