-- How a log sum rises with the steps, by some slopes between the ends: what the lesser of the products says, in a form that
-- adds and scales.
use Rattle.std.specs.Int.{int_min, int_max}
use Rattle.std.proofs.Common.{ℕ, suc, ◌*◌, ◌^◌, ◌<◌, ◌≡◌, refl, sym, ap, ap₂, subst, ◌∙◌, arith, lit<, inl, inr, ◌≤ℤ◌, ℤ, pos, negsuc, neg_ℤ, ◌+ℤ◌, ◌*ℤ◌}
use Rattle.std.proofs.Math.IntN.{*ℤ_comm, neg_ℤ-neg_ℤ}
use Rattle.std.proofs.Math.Nat.{mul-le-mul_right}
use Rattle.std.proofs.lemmas.Int.{ints, clamps}
use borrow.Author.Differences.{le_out}
use Rattle.log_laws.specs.Between.{Ends, IsBetween}
use Rattle.log_laws.specs.Fraction.{Fraction, IsFraction, sum_of, negated, product_of}
use Rattle.log_laws.specs.Interval.{ends}
use Rattle.log_laws.specs.LogSum.{LogSum, AtLeast, AtMost, added, scaled, opposite, constant}
use Rattle.log_laws.specs.Sums.{int_sum_below}
use Rattle.log_laws.proofs.Exports.{add-mul_ℤ, at_least_adds, at_least_constant, at_least_lowers, at_least_scales, at_most_is_opposite, between, either_sign, fraction_is, mul-le_ℤ, mul-neg, mul_right_comm_ℤ, neg-mul, negated-scaled, opposite-opposite, over_den, product_pos, scale_scale, scaled-opposite, sum-added, sum-neg, sum-order_scaled, sum-same, sum-times}
use Rattle.fix_interval.proofs.Exports.{IsBetween-negated, IsBetween-sum_of, IsBetween-wider}
use Rattle.slope_form.specs.Meaning.{Steps, least_change, greatest_change}

-- ---- rises
abbrev pub total : (ℕ → ℤ) → Steps → ℤ
total slope d = int_sum_below 4 (λ j. slope j *ℤ d.step j)

-- the slopes are over one denominator, in 2^-40
pub record Rises (w : LogSum) (by : ℕ → Ends) (d : Steps) : Type 0 where
  pub scale : ℕ
  pub scale_positive : 0 < scale
  pub slope : ℕ → ℤ
  pub among : (j : ℕ) → j < 4 → IsBetween (by j) 1 (over_den (slope j) scale)
  pub at_least : AtLeast w (over_den (int_sum_below 4 (λ j. slope j *ℤ d.step j)) (scale * (2 ^ 40 * d.den)))

abbrev pub turned_ends : Ends → Ends
turned_ends e = ends (neg_ℤ e.hi) (neg_ℤ e.lo)

abbrev pub all_turned : (ℕ → Ends) → ℕ → Ends
all_turned by j = turned_ends (by j)

-- both ways
pub record Moves (w : LogSum) (by : ℕ → Ends) (d : Steps) : Type 0 where
  pub rises : Rises w by d
  pub falls : Rises (opposite w) (all_turned by) d

-- ---- from and to the lesser of the products
pub least_times : (lo hi s z : ℤ) (k : ℕ) → (lo *ℤ pos k) ≤ℤ s → s ≤ℤ (hi *ℤ pos k) → (int_min (lo *ℤ z) (hi *ℤ z) *ℤ pos k) ≤ℤ (s *ℤ z)
least_times lo hi s z k l h =
    elim (between (lo *ℤ pos k) s (hi *ℤ pos k) z l h) [
      | inl w ↦ by_one (lo *ℤ z) (rw (mul_right_comm_ℤ lo z (pos k)) at w.0) (omega (arith, ints, clamps))
      | inr w ↦ by_one (hi *ℤ z) (rw (mul_right_comm_ℤ hi z (pos k)) at w.0) (omega (arith, ints, clamps))
    ]
  where
    by_one : (a : ℤ) → (a *ℤ pos k) ≤ℤ (s *ℤ z) → int_min (lo *ℤ z) (hi *ℤ z) ≤ℤ a → (int_min (lo *ℤ z) (hi *ℤ z) *ℤ pos k) ≤ℤ (s *ℤ z)
    by_one a g m = omega (arith, ints, mul-le_ℤ (int_min (lo *ℤ z) (hi *ℤ z)) a k m, g)

den_positive : (d : Steps) → 0 < 2 ^ 40 * d.den
den_positive d = product_pos (2 ^ 40) d.den (lit< tt) d.positive

pub rises_least : {w : LogSum} {by : ℕ → Ends} {d : Steps} → Rises w by d → AtLeast w (least_change by d)
rises_least {w} {by} {d} r =
    at_least_lowers w (over_den (int_sum_below 4 (λ j. r.slope j *ℤ d.step j)) (r.scale * (2 ^ 40 * d.den))) (least_change by d) (den_positive d)
    (rw (← scale_scale (int_sum_below 4 (λ j. int_min ((by j).lo *ℤ d.step j) ((by j).hi *ℤ d.step j))) r.scale (2 ^ 40 * d.den))
    (mul-le_ℤ (int_sum_below 4 (λ j. int_min ((by j).lo *ℤ d.step j) ((by j).hi *ℤ d.step j)) *ℤ pos r.scale) (int_sum_below 4 (λ j. r.slope j *ℤ d.step j)) (2 ^ 40 * d.den)
    (sum-order_scaled 4 (λ j. int_min ((by j).lo *ℤ d.step j) ((by j).hi *ℤ d.step j)) (λ j. r.slope j *ℤ d.step j) r.scale
    (λ j l. let b = r.among j l in least_times (by j).lo (by j).hi (r.slope j) (d.step j) r.scale (omega (arith, ints, b.above)) (omega (arith, ints, b.below))))))
    r.at_least

-- the end that a step takes
pick : Ends → ℤ → ℤ
pick e (pos n) = e.lo
pick e (negsuc n) = e.hi

pick-times : (e : Ends) (z : ℤ) → e.lo ≤ℤ e.hi → pick e z *ℤ z ≡ int_min (e.lo *ℤ z) (e.hi *ℤ z)
unfolding pick
pick-times e (pos n) h = let l = mul-le_ℤ e.lo e.hi n h in lesser (e.lo *ℤ pos n) (e.hi *ℤ pos n) l
  where
    lesser : (a b : ℤ) → a ≤ℤ b → a ≡ int_min a b
    lesser a b l = omega (arith, ints, clamps)
pick-times e (negsuc n) h =
    let l : (e.hi *ℤ negsuc n) ≤ℤ (e.lo *ℤ negsuc n) = omega (arith, ints, mul-le-mul_right (suc n) (le_out e.lo e.hi h)) in
    lesser (e.lo *ℤ negsuc n) (e.hi *ℤ negsuc n) l
  where
    lesser : (a b : ℤ) → b ≤ℤ a → b ≡ int_min a b
    lesser a b l = omega (arith, ints, clamps)

pick_among : (e : Ends) (z : ℤ) → e.lo ≤ℤ e.hi → IsBetween e 1 (over_den (pick e z) 1)
unfolding pick
pick_among e (pos n) h = record { is_fraction = omega arith; above = omega (arith, ints); below = mul-le_ℤ e.lo e.hi 1 h }
pick_among e (negsuc n) h = record { is_fraction = omega arith; above = mul-le_ℤ e.lo e.hi 1 h; below = omega (arith, ints) }

pub rises_from : (w : LogSum) (by : ℕ → Ends) (d : Steps) → ((j : ℕ) → j < 4 → (by j).lo ≤ℤ (by j).hi) → AtLeast w (least_change by d) →
    Rises w by d
rises_from w by d o x = record {
  scale = 1;
  scale_positive = omega arith;
  slope = λ j. pick (by j) (d.step j);
  among = λ j l. pick_among (by j) (d.step j) (o j l);
  at_least = subst (AtLeast w)
      (fraction_is (int_sum_below 4 (λ j. int_min ((by j).lo *ℤ d.step j) ((by j).hi *ℤ d.step j))) (int_sum_below 4 (λ j. pick (by j) (d.step j) *ℤ d.step j)) (2 ^ 40 * d.den) (1 * (2 ^ 40 * d.den))
      (sum-same 4 (λ j. int_min ((by j).lo *ℤ d.step j) ((by j).hi *ℤ d.step j)) (λ j. pick (by j) (d.step j) *ℤ d.step j) (λ j l. sym (pick-times (by j) (d.step j) (o j l))))
      (omega arith)) x;
}

-- ---- laws
pub rises_wider : {w : LogSum} {by : ℕ → Ends} {d : Steps} (to : ℕ → Ends) →
    ((j : ℕ) → j < 4 → ((to j).lo ≤ℤ (by j).lo) × ((by j).hi ≤ℤ (to j).hi)) → Rises w by d → Rises w to d
rises_wider {w} {by} {d} to h r = record {
  scale = r.scale;
  scale_positive = r.scale_positive;
  slope = r.slope;
  among = λ j l. IsBetween-wider (by j) (to j) 1 (over_den (r.slope j) r.scale) (h j l).0 (h j l).1 (r.among j l);
  at_least = r.at_least;
}

-- what is at least a number that rises
pub rises_above : {f : Fraction} {by : ℕ → Ends} {d : Steps} (w : LogSum) → Rises (constant f) by d → AtLeast w f → Rises w by d
rises_above {f} {by} {d} w r x = record {
  scale = r.scale;
  scale_positive = r.scale_positive;
  slope = r.slope;
  among = r.among;
  at_least = at_least_lowers w f (over_den (int_sum_below 4 (λ j. r.slope j *ℤ d.step j)) (r.scale * (2 ^ 40 * d.den)))
      (product_pos r.scale (2 ^ 40 * d.den) r.scale_positive (den_positive d))
      (at_least_constant f (over_den (int_sum_below 4 (λ j. r.slope j *ℤ d.step j)) (r.scale * (2 ^ 40 * d.den))) r.at_least) x;
}

abbrev pub all_added : (ℕ → Ends) → (ℕ → Ends) → ℕ → Ends
all_added f g j = ends ((f j).lo +ℤ (g j).lo) ((f j).hi +ℤ (g j).hi)

le_of_same : (a b : ℤ) → a ≡ b → a ≤ℤ b
le_of_same a b e = rw e (omega (arith, ints))

pub rises_added : {w t : LogSum} {f g : ℕ → Ends} {d : Steps} → Rises w f d → Rises t g d → Rises (added w t) (all_added f g) d
rises_added {w} {t} {f} {g} {d} r q = record {
  scale = r.scale * q.scale;
  scale_positive = product_pos r.scale q.scale r.scale_positive q.scale_positive;
  slope = λ j. r.slope j *ℤ pos q.scale +ℤ q.slope j *ℤ pos r.scale;
  among = λ j l. IsBetween-sum_of (f j) (g j) 1 (over_den (r.slope j) r.scale) (over_den (q.slope j) q.scale) (r.among j l) (q.among j l);
  at_least = at_least_lowers (added w t)
      (sum_of (over_den (total r.slope d) (r.scale * (2 ^ 40 * d.den))) (over_den (total q.slope d) (q.scale * (2 ^ 40 * d.den))))
      (over_den (int_sum_below 4 (λ j. (r.slope j *ℤ pos q.scale +ℤ q.slope j *ℤ pos r.scale) *ℤ d.step j)) (r.scale * q.scale * (2 ^ 40 * d.den)))
      (product_pos (r.scale * q.scale) (2 ^ 40 * d.den) (product_pos r.scale q.scale r.scale_positive q.scale_positive) (den_positive d))
      (rw sum_is (le_of_same ((total r.slope d *ℤ pos q.scale +ℤ total q.slope d *ℤ pos r.scale) *ℤ pos (r.scale * (2 ^ 40 * d.den) * (q.scale * (2 ^ 40 * d.den))))
      ((total r.slope d *ℤ pos (q.scale * (2 ^ 40 * d.den)) +ℤ total q.slope d *ℤ pos (r.scale * (2 ^ 40 * d.den))) *ℤ pos (r.scale * q.scale * (2 ^ 40 * d.den)))
      (spelled (total r.slope d) (total q.slope d) r.scale q.scale (2 ^ 40 * d.den))))
      (at_least_adds w t (over_den (total r.slope d) (r.scale * (2 ^ 40 * d.den))) (over_den (total q.slope d) (q.scale * (2 ^ 40 * d.den))) r.at_least q.at_least);
}
  where
    sum_is : int_sum_below 4 (λ j. (r.slope j *ℤ pos q.scale +ℤ q.slope j *ℤ pos r.scale) *ℤ d.step j)
        ≡ total r.slope d *ℤ pos q.scale +ℤ total q.slope d *ℤ pos r.scale
    sum_is =
        sum-same 4 (λ j. (r.slope j *ℤ pos q.scale +ℤ q.slope j *ℤ pos r.scale) *ℤ d.step j)
        (λ j. (r.slope j *ℤ pos q.scale) *ℤ d.step j +ℤ (q.slope j *ℤ pos r.scale) *ℤ d.step j)
        (λ j l. add-mul_ℤ (r.slope j *ℤ pos q.scale) (q.slope j *ℤ pos r.scale) (d.step j))
        ∙ sum-added 4 (λ j. (r.slope j *ℤ pos q.scale) *ℤ d.step j) (λ j. (q.slope j *ℤ pos r.scale) *ℤ d.step j)
        ∙ ap₂ (λ (a b : ℤ). a +ℤ b) (sum-times 4 r.slope d.step (pos q.scale)) (sum-times 4 q.slope d.step (pos r.scale))

    spelled : (a b : ℤ) (k m n : ℕ) →
        (a *ℤ pos m +ℤ b *ℤ pos k) *ℤ pos (k * n * (m * n)) ≡ (a *ℤ pos (m * n) +ℤ b *ℤ pos (k * n)) *ℤ pos (k * m * n)
    spelled a b k m n =
        let e : m * (k * n * (m * n)) ≡ m * n * (k * m * n) = omega arith in
        let f : k * (k * n * (m * n)) ≡ k * n * (k * m * n) = omega arith in
        rw (
          add-mul_ℤ (a *ℤ pos m) (b *ℤ pos k) (pos (k * n * (m * n))),
          add-mul_ℤ (a *ℤ pos (m * n)) (b *ℤ pos (k * n)) (pos (k * m * n)),
          scale_scale a m (k * n * (m * n)),
          scale_scale b k (k * n * (m * n)),
          scale_scale a (m * n) (k * m * n),
          scale_scale b (k * n) (k * m * n),
          e,
          f,
        ) refl

-- slopes between f times c lie between r
abbrev pub Carries : Fraction → (ℕ → Ends) → (ℕ → Ends) → Type 0
Carries c f r = (j : ℕ) → j < 4 → (s : Fraction) → IsBetween (f j) 1 s → IsBetween (r j) 1 (product_of s c)

-- the ends turned back
turned_back : (e : Ends) (s : Fraction) → IsBetween (turned_ends e) 1 s → IsBetween e 1 (negated s)
turned_back e s h = record {
  is_fraction = h.is_fraction;
  above = (let k = rw (neg-mul e.lo (pos s.den)) at h.below in rw (neg-mul s.num (pos 1)) (omega (arith, ints, k)));
  below = (let k = rw (neg-mul e.hi (pos s.den)) at h.above in rw (neg-mul s.num (pos 1)) (omega (arith, ints, k)));
}

-- c of at least 0
pub scaled_up : (w : LogSum) {f : ℕ → Ends} {d : Steps} (c : Fraction) (r : ℕ → Ends) → IsFraction c → pos 0 ≤ℤ c.num → Carries c f r →
    Rises w f d → Rises (scaled c w) r d
scaled_up w {f} {d} c r pc nonneg carries x = record {
  scale = x.scale * c.den;
  scale_positive = product_pos x.scale c.den x.scale_positive pc;
  slope = λ j. x.slope j *ℤ c.num;
  among = λ j l. carries j l (over_den (x.slope j) x.scale) (x.among j l);
  at_least = subst (AtLeast (scaled c w))
      (fraction_is (c.num *ℤ total x.slope d) (total (λ j. x.slope j *ℤ c.num) d) (c.den * (x.scale * (2 ^ 40 * d.den))) (x.scale * c.den * (2 ^ 40 * d.den))
      (*ℤ_comm c.num (total x.slope d) ∙ sym (sum-times 4 x.slope d.step c.num)) (omega arith))
      (at_least_scales c w (over_den (total x.slope d) (x.scale * (2 ^ 40 * d.den))) pc nonneg x.at_least);
}

-- c below 0, from what the opposite rises by
scaled_down : (w : LogSum) {f : ℕ → Ends} {d : Steps} (c : Fraction) (r : ℕ → Ends) → IsFraction c → pos 0 ≤ℤ neg_ℤ c.num → Carries c f r →
    Rises (opposite w) (all_turned f) d → Rises (scaled c w) r d
scaled_down w {f} {d} c r pc nonneg carries x =
    subst (λ (s : LogSum). Rises s r d) (negated-scaled c (opposite w) ∙ ap opposite (scaled-opposite c w) ∙ opposite-opposite (scaled c w))
    (scaled_up (opposite w) {f = all_turned f} {d = d} (negated c) r pc nonneg
    (λ j l s h. subst (IsBetween (r j) 1) (fraction_is (neg_ℤ s.num *ℤ c.num) (s.num *ℤ neg_ℤ c.num) (s.den * c.den) (s.den * c.den) (neg-mul s.num c.num ∙ sym (mul-neg s.num c.num)) refl)
    (carries j l (negated s) (turned_back (f j) s h))) x)

pub rises_scaled : (w : LogSum) {f : ℕ → Ends} {d : Steps} (c : Fraction) (r : ℕ → Ends) → IsFraction c → Carries c f r → Moves w f d →
    Rises (scaled c w) r d
rises_scaled w {f} {d} c r pc carries m =
    elim (either_sign c.num) [ inl h ↦ scaled_up w c r pc h carries m.rises | inr h ↦ scaled_down w c r pc h carries m.falls ]

-- ---- the other way
pub opposite_moves : {w : LogSum} {f : ℕ → Ends} {d : Steps} → Moves w f d → Moves (opposite w) (all_turned f) d
opposite_moves {w} {f} {d} m = record {
  rises = m.falls;
  falls = subst (λ (s : LogSum). Rises s (all_turned (all_turned f)) d) (sym (opposite-opposite w))
      (rises_wider {by = f} (all_turned (all_turned f)) (λ j l. (turned_twice (f j).lo, turned_twice_up (f j).hi)) m.rises);
}
  where
    turned_twice : (z : ℤ) → neg_ℤ (neg_ℤ z) ≤ℤ z
    turned_twice z = rw (neg_ℤ-neg_ℤ z) (omega (arith, ints))

    turned_twice_up : (z : ℤ) → z ≤ℤ neg_ℤ (neg_ℤ z)
    turned_twice_up z = rw (neg_ℤ-neg_ℤ z) (omega (arith, ints))

-- both ways, from a rule that rises
pub carries_turned : (c : Fraction) (f r : ℕ → Ends) → Carries c f r → Carries c (all_turned f) (all_turned r)
carries_turned c f r h j l s k =
    let b = turned_over (r j) (product_of (negated s) c) (h j l (negated s) (turned_back (f j) s k)) in
    subst (IsBetween (all_turned r j) 1) (fraction_is (neg_ℤ (neg_ℤ s.num *ℤ c.num)) (s.num *ℤ c.num) (s.den * c.den) (s.den * c.den)
    (ap neg_ℤ (neg-mul s.num c.num) ∙ neg_ℤ-neg_ℤ (s.num *ℤ c.num)) refl) b
  where
    turned_over : (e : Ends) (t : Fraction) → IsBetween e 1 t → IsBetween (turned_ends e) 1 (negated t)
    turned_over e t x = IsBetween-negated e 1 t x

-- another spelling of what rises
pub rises_as : {w : LogSum} {f : ℕ → Ends} {d : Steps} (t : LogSum) → ((r : Fraction) → AtLeast w r → AtLeast t r) → Rises w f d → Rises t f d
rises_as {w} {f} {d} t h r = record {
  scale = r.scale;
  scale_positive = r.scale_positive;
  slope = r.slope;
  among = r.among;
  at_least = h (over_den (total r.slope d) (r.scale * (2 ^ 40 * d.den))) r.at_least;
}

-- ---- the least and the greatest change
pub greatest_turned : (by : ℕ → Ends) (d : Steps) → negated (greatest_change by d) ≡ least_change (all_turned by) d
greatest_turned by d =
    fraction_is (neg_ℤ (int_sum_below 4 (λ j. int_max ((by j).lo *ℤ d.step j) ((by j).hi *ℤ d.step j))))
    (int_sum_below 4 (λ j. int_min (neg_ℤ (by j).hi *ℤ d.step j) (neg_ℤ (by j).lo *ℤ d.step j))) (2 ^ 40 * d.den) (2 ^ 40 * d.den)
    (sym (sum-neg 4 (λ j. int_max ((by j).lo *ℤ d.step j) ((by j).hi *ℤ d.step j)))
    ∙ sum-same 4 (λ j. neg_ℤ (int_max ((by j).lo *ℤ d.step j) ((by j).hi *ℤ d.step j))) (λ j. int_min (neg_ℤ (by j).hi *ℤ d.step j) (neg_ℤ (by j).lo *ℤ d.step j))
    (λ j l. one_of (by j).lo (by j).hi (d.step j))) refl
  where
    one_of : (a b z : ℤ) → neg_ℤ (int_max (a *ℤ z) (b *ℤ z)) ≡ int_min (neg_ℤ b *ℤ z) (neg_ℤ a *ℤ z)
    one_of a b z = rw (neg-mul a z, neg-mul b z) (omega (arith, ints, clamps))

abbrev pub AreOrdered : (ℕ → Ends) → Type 0
AreOrdered by = (j : ℕ) → j < 4 → (by j).lo ≤ℤ (by j).hi

turned_ordered : (by : ℕ → Ends) → AreOrdered by → AreOrdered (all_turned by)
turned_ordered by o j l = let h = o j l in omega (arith, ints, h)

-- from the least and the greatest change, and back
pub moves_from : (w : LogSum) (by : ℕ → Ends) (d : Steps) → AreOrdered by → AtLeast w (least_change by d) → AtMost w (greatest_change by d) →
    Moves w by d
moves_from w by d o l g = record {
  rises = rises_from w by d o l;
  falls = rises_from (opposite w) (all_turned by) d (turned_ordered by o)
      (subst (AtLeast (opposite w)) (greatest_turned by d) ((at_most_is_opposite w (greatest_change by d)).0 g));
}

pub moves_most : {w : LogSum} {by : ℕ → Ends} {d : Steps} → Moves w by d → AtMost w (greatest_change by d)
moves_most {w} {by} {d} m = (at_most_is_opposite w (greatest_change by d)).1
    (subst (AtLeast (opposite w)) (sym (greatest_turned by d)) (rises_least m.falls))

pub moves_wider : {w : LogSum} {by : ℕ → Ends} {d : Steps} (to : ℕ → Ends) →
    ((j : ℕ) → j < 4 → ((to j).lo ≤ℤ (by j).lo) × ((by j).hi ≤ℤ (to j).hi)) → Moves w by d → Moves w to d
moves_wider {w} {by} {d} to h m = record {
  rises = rises_wider to h m.rises;
  falls = rises_wider (all_turned to) (λ j l. let k = h j l in (omega (arith, ints, k), omega (arith, ints, k))) m.falls;
}
