-- How sums, products and quotients rise, from how their parts do. Each rule is shown for the lower side; the upper side is the
-- lower side of the opposites.
use Rattle.std.proofs.Common.{ℕ, ◌+◌, ◌*◌, ◌^◌, ◌<◌, ◌≡◌, refl, sym, ap, ap₂, subst, ◌∙◌, arith, lit<, inl, inr, ◌≤ℤ◌, ℤ, pos, neg_ℤ, ◌*ℤ◌}
use Rattle.std.proofs.Math.IntN.{*ℤ_comm, neg_ℤ-neg_ℤ}
use Rattle.std.proofs.Math.Nat.{mul_comm}
use Rattle.std.proofs.lemmas.Int.{ints}
use borrow.Author.Differences.{up}
use Rattle.log_laws.specs.Between.{Ends, IsBetween}
use Rattle.log_laws.specs.Fraction.{Fraction, IsFraction, IsSame, sum_of, negated, difference, product_of, inverse}
use Rattle.log_laws.specs.LogSum.{LogSum, AtLeast, IsPositive, added, scaled, opposite, constant}
use Rattle.log_laws.proofs.Exports.{at_least_scales, at_most_is_opposite, difference-restored, difference_den, either_sign, fraction_is, mul-neg, neg-mul, negated-difference, negated-scaled, opposite-added, opposite-opposite, parts_inverse, parts_negated, parts_positive, parts_product, parts_sum, product_of_comm, product_rule, quotient_rule, same_of_parts, scaled-opposite, sum_rule, turned_product_rule}
use Rattle.fix_interval.proofs.Exports.{IsBetween-negated, IsBetween-wider}
use Rattle.slope_form.specs.Meaning.{Steps, IsIn, change, bits_of}
use Rattle.slope_form.proofs.Slopes.{Carries, Moves, Rises, all_added, all_turned, carries_turned, opposite_moves, rises_above, rises_added, rises_as, rises_scaled, rises_wider, scaled_up, turned_ends}

pub change_turned : (u v : LogSum) → opposite (change u v) ≡ change (opposite u) (opposite v)
change_turned u v = opposite-added v (opposite u)

-- ---- sums
sum_rises : (u v u' v' : LogSum) {f g : ℕ → Ends} {d : Steps} → Rises (change u v) f d → Rises (change u' v') g d →
    Rises (change (added u u') (added v v')) (all_added f g) d
sum_rises u v u' v' r q = rises_as (change (added u u') (added v v')) (sum_rule u v u' v') (rises_added r q)

pub sum_moves : (u v u' v' : LogSum) {f g : ℕ → Ends} {d : Steps} → Moves (change u v) f d → Moves (change u' v') g d →
    Moves (change (added u u') (added v v')) (all_added f g) d
sum_moves u v u' v' {f} {g} {d} m n = record {
  rises = sum_rises u v u' v' m.rises n.rises;
  falls =
      let r : Rises (change (opposite u) (opposite v)) (all_turned f) d = subst (λ (s : LogSum). Rises s (all_turned f) d)
      (change_turned u v) m.falls in
      let q : Rises (change (opposite u') (opposite v')) (all_turned g) d = subst (λ (s : LogSum). Rises s (all_turned g) d)
      (change_turned u' v') n.falls in
      subst (λ (s : LogSum). Rises s (all_turned (all_added f g)) d)
      (ap₂ (λ (a b : LogSum). change a b) (sym (opposite-added u u')) (sym (opposite-added v v')) ∙ sym (change_turned (added u u') (added v v')))
      (rises_wider (all_turned (all_added f g)) (λ j l. (omega (arith, ints), omega (arith, ints))) (sum_rises (opposite u) (opposite v) (opposite u') (opposite v') r q));
}

-- ---- a log sum between ends, times a number that moves
-- a bound of b times a log sum, by the sign of b
pub scaled_low : (b : Fraction) (u : LogSum) (e : Ends) → IsFraction b → pos 0 ≤ℤ b.num → IsIn e u →
    AtLeast (scaled b u) (product_of (bits_of e.lo) b)
scaled_low b u e pb h i = subst (AtLeast (scaled b u)) (product_of_comm b (bits_of e.lo)) (at_least_scales b u (bits_of e.lo) pb h i.at_least)

pub scaled_high : (b : Fraction) (u : LogSum) (e : Ends) → IsFraction b → pos 0 ≤ℤ neg_ℤ b.num → IsIn e u →
    AtLeast (scaled b u) (product_of (bits_of e.hi) b)
scaled_high b u e pb h i =
    let x = at_least_scales (negated b) (opposite u) (negated (bits_of e.hi)) pb h ((at_most_is_opposite u (bits_of e.hi)).0 i.at_most) in
    let y = subst (λ (s : LogSum). AtLeast s (product_of (negated b) (negated (bits_of e.hi))))
    (negated-scaled b (opposite u) ∙ ap opposite (scaled-opposite b u) ∙ opposite-opposite (scaled b u)) x in
    subst (AtLeast (scaled b u))
    (fraction_is (neg_ℤ b.num *ℤ neg_ℤ e.hi) (e.hi *ℤ b.num) (b.den * 2 ^ 40) (2 ^ 40 * b.den)
    (neg-mul b.num (neg_ℤ e.hi) ∙ ap neg_ℤ (mul-neg b.num e.hi) ∙ neg_ℤ-neg_ℤ (b.num *ℤ e.hi) ∙ *ℤ_comm b.num e.hi) (mul_comm b.den (2 ^ 40))) y

-- both ends carry f into r
pub record EndsCarry (e : Ends) (f r : ℕ → Ends) : Type 0 where
  pub low : Carries (bits_of e.lo) f r
  pub high : Carries (bits_of e.hi) f r

pub rises_by : (b : Fraction) (u : LogSum) (e : Ends) {f : ℕ → Ends} {d : Steps} (r : ℕ → Ends) → IsFraction b → IsIn e u → EndsCarry e f r →
    Moves (constant b) f d → Rises (scaled b u) r d
rises_by b u e r pb i c m =
    elim (either_sign b.num) [
      | inl h ↦ rises_above (scaled b u) (rises_scaled (constant b) (bits_of e.lo) r (lit< tt) c.low m) (scaled_low b u e pb h i)
      | inr h ↦ rises_above (scaled b u) (rises_scaled (constant b) (bits_of e.hi) r (lit< tt) c.high m) (scaled_high b u e pb h i)
    ]

-- ---- products: f a log sum and g a fraction
product_rises : (u v : LogSum) (x y : Fraction) (at : Ends) {f g : ℕ → Ends} {d : Steps} (r q : ℕ → Ends) → IsFraction x → IsFraction y →
    IsIn at u →
    Moves (change u v) f d → Moves (constant (difference y x)) g d → Carries y f r → EndsCarry at g q →
    Rises (change (scaled x u) (scaled y v)) (all_added r q) d
product_rises u v x y at r q px py i m n c e =
    rises_as (change (scaled x u) (scaled y v))
    (λ b. product_rule y (difference y x) x u v b py (difference_den x y px py) px (negated-difference x y px py))
    (rises_added (rises_scaled (change u v) y r py c m) (rises_by (difference y x) u at q (difference_den x y px py) i e n))

-- the other side
pub in_turned : (e : Ends) (u : LogSum) → IsIn e u → IsIn (turned_ends e) (opposite u)
in_turned e u i = record {
  at_least = (at_most_is_opposite u (bits_of e.hi)).0 i.at_most;
  at_most = (at_most_is_opposite (opposite u) (bits_of (neg_ℤ e.lo))).1
      (subst (λ (s : LogSum). AtLeast s (negated (bits_of (neg_ℤ e.lo)))) (sym (opposite-opposite u))
      (subst (AtLeast u) (fraction_is e.lo (neg_ℤ (neg_ℤ e.lo)) (2 ^ 40) (2 ^ 40) (sym (neg_ℤ-neg_ℤ e.lo)) refl) i.at_least));
}

carries_negated : (z : ℤ) (f r : ℕ → Ends) → Carries (bits_of z) f r → Carries (bits_of (neg_ℤ z)) f (all_turned r)
carries_negated z f r h j l s k =
    subst (IsBetween (all_turned r j) 1)
    (fraction_is (neg_ℤ (s.num *ℤ z)) (s.num *ℤ neg_ℤ z) (s.den * 2 ^ 40) (s.den * 2 ^ 40) (sym (mul-neg s.num z)) refl)
    (IsBetween-negated (r j) 1 (product_of s (bits_of z)) (h j l s k))

ends_carry_turned : (e : Ends) (f r : ℕ → Ends) → EndsCarry e f r → EndsCarry (turned_ends e) f (all_turned r)
ends_carry_turned e f r c = record { low = carries_negated e.hi f r c.high; high = carries_negated e.lo f r c.low }

product_turned : (u v : LogSum) (x y : Fraction) →
    change (scaled x (opposite u)) (scaled y (opposite v)) ≡ opposite (change (scaled x u) (scaled y v))
product_turned u v x y = ap₂ (λ (a b : LogSum). change a b) (scaled-opposite x u) (scaled-opposite y v)
    ∙ sym (change_turned (scaled x u) (scaled y v))

pub moves_turned : (u v : LogSum) {f : ℕ → Ends} {d : Steps} → Moves (change u v) f d → Moves (change (opposite u) (opposite v)) (all_turned f) d
moves_turned u v {f} {d} m = subst (λ (s : LogSum). Moves s (all_turned f) d) (change_turned u v) (opposite_moves m)

sum_of_turned : {w : LogSum} {d : Steps} (r q : ℕ → Ends) → Rises w (all_added (all_turned r) (all_turned q)) d →
    Rises w (all_turned (all_added r q)) d
sum_of_turned r q x = rises_wider (all_turned (all_added r q)) (λ j l. (omega (arith, ints), omega (arith, ints))) x

pub product_moves : (u v : LogSum) (x y : Fraction) (at : Ends) {f g : ℕ → Ends} {d : Steps} (r q : ℕ → Ends) → IsFraction x → IsFraction y →
    IsIn at u →
    Moves (change u v) f d → Moves (constant (difference y x)) g d → Carries y f r → EndsCarry at g q →
    Moves (change (scaled x u) (scaled y v)) (all_added r q) d
product_moves u v x y at {f} {g} {d} r q px py i m n c e = record {
  rises = product_rises u v x y at r q px py i m n c e;
  falls = subst (λ (s : LogSum). Rises s (all_turned (all_added r q)) d) (product_turned u v x y)
      (sum_of_turned r q (product_rises (opposite u) (opposite v) x y (turned_ends at) (all_turned r) (all_turned q) px py (in_turned at u i) (moves_turned u v m) n
      (carries_turned y f r c) (ends_carry_turned at g q e)));
}

-- ---- products: f a fraction and g a log sum
fraction_product_rises : (x y : Fraction) (u v : LogSum) (over : Ends) {f g : ℕ → Ends} {d : Steps} (r q : ℕ → Ends) → IsFraction x → IsFraction y →
    IsIn over v →
    Moves (constant (difference y x)) f d → Moves (change u v) g d → EndsCarry over f r → Carries x g q →
    Rises (change (scaled x u) (scaled y v)) (all_added r q) d
fraction_product_rises x y u v over r q px py i m n e c =
    rises_as (change (scaled x u) (scaled y v))
    (λ b. turned_product_rule y (difference y x) x u v b py (difference_den x y px py) px (difference-restored x y px py))
    (rises_added (rises_by (difference y x) v over r (difference_den x y px py) i e m) (rises_scaled (change u v) x q px c n))

pub fraction_product_moves : (x y : Fraction) (u v : LogSum) (over : Ends) {f g : ℕ → Ends} {d : Steps} (r q : ℕ → Ends) → IsFraction x →
    IsFraction y → IsIn over v →
    Moves (constant (difference y x)) f d → Moves (change u v) g d → EndsCarry over f r → Carries x g q →
    Moves (change (scaled x u) (scaled y v)) (all_added r q) d
fraction_product_moves x y u v over {f} {g} {d} r q px py i m n e c = record {
  rises = fraction_product_rises x y u v over r q px py i m n e c;
  falls = subst (λ (s : LogSum). Rises s (all_turned (all_added r q)) d) (product_turned u v x y)
      (sum_of_turned r q (fraction_product_rises x y (opposite u) (opposite v) (turned_ends over) (all_turned r) (all_turned q) px py (in_turned over v i) m (moves_turned u v n)
      (ends_carry_turned over f r e) (carries_turned x g q c)));
}

-- ---- quotients by a positive fraction
quotient_same : (x y : Fraction) → IsPositive x → IsPositive y →
    IsSame (sum_of (negated (inverse y)) (product_of (inverse y) (product_of (negated (difference y x)) (inverse x)))) (negated (inverse x))
quotient_same x y px py =
    let b = parts_negated (parts_sum (parts_positive y py) (parts_negated (parts_positive x px))) in
    same_of_parts (parts_sum (parts_negated (parts_inverse y py)) (parts_product (parts_inverse y py) (parts_product b (parts_inverse x px))))
    (parts_negated (parts_inverse x px))
    (numbers (up x.num) x.den (up y.num) y.den)
  where
    numbers : (X P Y Q : ℕ) →
        (0 * (Y * (Q * P * X)) + (Q * ((0 * P + X * Q) * P + (Y * P + 0 * Q) * 0) + 0 * ((0 * P + X * Q) * 0 + (Y * P + 0 * Q) * P)) * Y) * X + P * (Y * (Y * (Q * P * X)))
        ≡ 0 * (Y * (Y * (Q * P * X))) + (Q * (Y * (Q * P * X)) + (Q * ((0 * P + X * Q) * 0 + (Y * P + 0 * Q) * P) + 0 * ((0 * P + X * Q) * P + (Y * P + 0 * Q) * 0)) * Y) * X
    numbers X P Y Q = omega arith

carries_from : (c : Fraction) (f g r : ℕ → Ends) → ((j : ℕ) → j < 4 → ((g j).lo ≤ℤ (f j).lo) × ((f j).hi ≤ℤ (g j).hi)) → Carries c g r →
    Carries c f r
carries_from c f g r n h j l s k = h j l s (IsBetween-wider (f j) (g j) 1 s (n j l).0 (n j l).1 k)

quotient_rises : (u v : LogSum) (x y : Fraction) (at : Ends) {f g : ℕ → Ends} {d : Steps} (h r : ℕ → Ends) → IsPositive x → IsPositive y →
    IsIn at (scaled (inverse x) u) →
    Moves (change u v) f d → Moves (constant (difference y x)) g d → EndsCarry at g h → Carries (inverse y) (all_added f (all_turned h)) r →
    Rises (change (scaled (inverse x) u) (scaled (inverse y) v)) r d
quotient_rises u v x y at {f} {g} {d} h r px py i m n e c =
    let b = difference y x in
    let pb = difference_den x y px.0 py.0 in
    let t = scaled (negated b) (scaled (inverse x) u) in
    rises_as (change (scaled (inverse x) u) (scaled (inverse y) v))
    (λ q. quotient_rule (inverse y) (negated b) (inverse x) u v q py.1 pb px.1 (quotient_same x y px py))
    (scaled_up (added (change u v) t) (inverse y) r py.1 (omega (arith, ints)) c
    (rises_added m.rises (rises_by (negated b) (scaled (inverse x) u) at (all_turned h) pb i
    (record { low = carries_turned (bits_of at.lo) g h e.low; high = carries_turned (bits_of at.hi) g h e.high }) (opposite_moves n))))

pub quotient_moves : (u v : LogSum) (x y : Fraction) (at : Ends) {f g : ℕ → Ends} {d : Steps} (h r : ℕ → Ends) → IsPositive x → IsPositive y →
    IsIn at (scaled (inverse x) u) →
    Moves (change u v) f d → Moves (constant (difference y x)) g d → EndsCarry at g h → Carries (inverse y) (all_added f (all_turned h)) r →
    Moves (change (scaled (inverse x) u) (scaled (inverse y) v)) r d
quotient_moves u v x y at {f} {g} {d} h r px py i m n e c = record {
  rises = quotient_rises u v x y at h r px py i m n e c;
  falls = subst (λ (s : LogSum). Rises s (all_turned r) d) (product_turned u v (inverse x) (inverse y))
      (quotient_rises (opposite u) (opposite v) x y (turned_ends at) (all_turned h) (all_turned r) px py
      (subst (IsIn (turned_ends at)) (sym (scaled-opposite (inverse x) u)) (in_turned at (scaled (inverse x) u) i))
      (moves_turned u v m) n (ends_carry_turned at g h e)
      (carries_from (inverse y) (all_added (all_turned f) (all_turned (all_turned h))) (all_turned (all_added f (all_turned h))) (all_turned r)
      (λ j l. (omega (arith, ints), omega (arith, ints))) (carries_turned (inverse y) (all_added f (all_turned h)) r c)));
}
