-- The slopes of a plane under which no pure column has a negative price are bounded by the size of the determinant.
use Rattle.std.proofs.Common.{◌≡◌, ℕ, suc, ◌*◌, ◌<◌, ◌≤◌, List, [], ◌∷◌, slice_index_or, ℤ, pos, negsuc, neg_ℤ, ◌+ℤ◌, ◌-ℤ◌, ◌*ℤ◌, ◌≤ℤ◌, unsigned_abs, refl, ap, ◌∙◌, arith}
use Rattle.std.proofs.Math.Nat.{mul-le-mul}
use Rattle.std.proofs.lemmas.Int.{ints}
use Rattle.log_laws.specs.Sums.{int_sum_below}
use Rattle.log_laws.proofs.Exports.{mul-add_ℤ, neg-mul, products_up, sum_up, unknown, added, times, minus, identity, sum-same, sum-scaled, sum-added}

-- a summand is at most the sum of numbers that aren't negative
values : List ℤ → ℕ → ℤ
values l i = slice_index_or l i (pos 0)

parted : (a t l z : ℤ) → (a -ℤ l *ℤ t) *ℤ z ≡ a *ℤ z +ℤ neg_ℤ t *ℤ (l *ℤ z)
unfolding values
parted a t l z =
    identity (values (a ∷ t ∷ l ∷ z ∷ [])) (times (added (unknown 0) (minus (times (unknown 2) (unknown 1)))) (unknown 3))
    (added (times (unknown 0) (unknown 3)) (times (minus (unknown 1)) (times (unknown 2) (unknown 3)))) refl

raised : (a c h : ℤ) → a *ℤ (c +ℤ h) ≡ a *ℤ c +ℤ h *ℤ a
unfolding values
raised a c h =
    identity (values (a ∷ c ∷ h ∷ [])) (times (unknown 0) (added (unknown 1) (unknown 2))) (added (times (unknown 0) (unknown 1)) (times (unknown 2) (unknown 0))) refl

not_below : (a b : ℤ) → a ≤ℤ b → pos 0 ≤ℤ (b -ℤ a)
not_below a b h = omega (arith, ints)

from_size : (c : ℤ) (h : ℕ) → unsigned_abs c ≤ h → pos 0 ≤ℤ (c +ℤ pos h)
from_size c h k = omega (arith, ints)

-- what the amounts cost isn't below their sum at the least cost
pub cost_up : (n : ℕ) (a c : ℕ → ℤ) (h : ℕ) → ((k : ℕ) → k < n → pos 0 ≤ℤ a k) → ((k : ℕ) → k < n → unsigned_abs (c k) ≤ h) →
    pos 0 ≤ℤ (int_sum_below n (λ k. a k *ℤ c k) +ℤ pos h *ℤ int_sum_below n a)
cost_up n a c h up small =
    let e : int_sum_below n (λ k. a k *ℤ (c k +ℤ pos h)) ≡ int_sum_below n (λ k. a k *ℤ c k) +ℤ pos h *ℤ int_sum_below n a =
    sum-same n (λ k. a k *ℤ (c k +ℤ pos h)) (λ k. a k *ℤ c k +ℤ pos h *ℤ a k) (λ k _. raised (a k) (c k) (pos h))
    ∙ sum-added n (λ k. a k *ℤ c k) (λ k. pos h *ℤ a k) ∙ ap (λ t. int_sum_below n (λ k. a k *ℤ c k) +ℤ t) (sum-scaled n (pos h) a) in
    rw e at (sum_up n (λ k. a k *ℤ (c k +ℤ pos h)) (λ k g. products_up (a k) (c k +ℤ pos h) (up k g) (from_size (c k) h (small k g))))

-- the sum of what each slope lies below its bound
pub gaps : (n : ℕ) (bound t : ℤ) (l z : ℕ → ℤ) →
    int_sum_below n (λ i. (bound -ℤ l i *ℤ t) *ℤ z i) ≡ bound *ℤ int_sum_below n z +ℤ neg_ℤ t *ℤ int_sum_below n (λ i. l i *ℤ z i)
gaps n bound t l z =
    sum-same n (λ i. (bound -ℤ l i *ℤ t) *ℤ z i) (λ i. bound *ℤ z i +ℤ neg_ℤ t *ℤ (l i *ℤ z i)) (λ i _. parted bound t (l i) (z i))
    ∙ sum-added n (λ i. bound *ℤ z i) (λ i. neg_ℤ t *ℤ (l i *ℤ z i))
    ∙ ap (λ y. y +ℤ int_sum_below n (λ i. neg_ℤ t *ℤ (l i *ℤ z i))) (sum-scaled n bound z)
    ∙ ap (λ y. bound *ℤ int_sum_below n z +ℤ y) (sum-scaled n (neg_ℤ t) (λ i. l i *ℤ z i))

-- one slope: what is left after the others
difference : (a l z : ℤ) → (a -ℤ l) *ℤ z ≡ a *ℤ z +ℤ neg_ℤ (l *ℤ z)
unfolding values
difference a l z = identity (values (a ∷ l ∷ z ∷ [])) (times (added (unknown 0) (minus (unknown 1))) (unknown 2)) (added (times (unknown 0) (unknown 2)) (minus (times (unknown 1) (unknown 2)))) refl

step_one : (a l z b y : ℤ) → ((a -ℤ l) *ℤ z) ≤ℤ (b +ℤ neg_ℤ y) → pos 0 ≤ℤ (a *ℤ z) → neg_ℤ (l *ℤ z) ≤ℤ (b +ℤ neg_ℤ y)
step_one a l z b y h up = through (a -ℤ l) z (difference a l z) h up
  where
    through : (d z : ℤ) → d *ℤ z ≡ a *ℤ z +ℤ neg_ℤ (l *ℤ z) → (d *ℤ z) ≤ℤ (b +ℤ neg_ℤ y) → pos 0 ≤ℤ (a *ℤ z) → neg_ℤ (l *ℤ z) ≤ℤ (b +ℤ neg_ℤ y)
    through d z e h up = omega (arith, ints, e, h, up)

-- -t q is at most t h p
step_two : (t h p : ℕ) (q : ℤ) → pos 0 ≤ℤ (q +ℤ pos h *ℤ pos p) → neg_ℤ (pos t *ℤ q) ≤ℤ pos (h * (p * t))
step_two t h p q up =
    let e = products_up (pos t) (q +ℤ pos (h * p)) (omega (arith, ints)) up in
    let f : pos t *ℤ (q +ℤ pos (h * p)) ≡ pos t *ℤ q +ℤ pos (t * (h * p)) = mul-add_ℤ (pos t) q (pos (h * p)) in
    omega (arith, ints, e, f)

neg_left : (t : ℕ) (q : ℤ) → neg_ℤ (pos t) *ℤ q ≡ neg_ℤ (pos t *ℤ q)
neg_left t q = neg-mul (pos t) q

join_steps : (s t h w p : ℕ) (y q : ℤ) → neg_ℤ y ≤ℤ (pos (s * h * w) +ℤ neg_ℤ (pos t *ℤ q)) → neg_ℤ (pos t *ℤ q) ≤ℤ pos (h * (p * t)) → p * t ≡ s * w → neg_ℤ y ≤ℤ pos (2 * (s * h * w))
join_steps s t h w p y q a b e = omega (arith, ints, a, rw e at b)

pub one_left : (s t h w p zj : ℕ) (l q : ℤ) → (((pos (s * h) -ℤ l *ℤ pos t) *ℤ pos zj) ≤ℤ (pos (s * h) *ℤ pos w +ℤ neg_ℤ (pos t) *ℤ q)) →
    pos 0 ≤ℤ (q +ℤ pos h *ℤ pos p) → p * t ≡ s * w → neg_ℤ ((l *ℤ pos t) *ℤ pos zj) ≤ℤ pos (2 * (s * h * w))
one_left s t h w p zj l q le up same =
    join_steps s t h w p ((l *ℤ pos t) *ℤ pos zj) q
    (step_one (pos (s * h)) (l *ℤ pos t) (pos zj) (pos (s * h * w)) (pos t *ℤ q) (rw (neg_left t q) at le) (omega (arith, ints)))
    (step_two t h p q up) same

-- so it has a size
same : (x : ℕ) → x ≤ x
same x = omega arith

scaled_down : (k z bound : ℕ) → 1 ≤ z → neg_ℤ (neg_ℤ (pos k) *ℤ pos z) ≤ℤ pos bound → k ≤ bound
scaled_down k z bound h le =
    let e = rw (neg-mul (pos k) (pos z)) at le in
    omega (arith, ints, e, mul-le-mul (same k) h)

pub from_below : (b c z bound : ℕ) → 1 ≤ z → neg_ℤ ((negsuc b *ℤ pos c) *ℤ pos z) ≤ℤ pos bound → suc b * c ≤ bound
from_below b c z bound h k = scaled_down (suc b * c) z bound h k

pub products_of : (d : ℤ) (z : ℕ) (y : ℤ) (b : ℕ) → y ≤ℤ pos b → pos 0 ≤ℤ ((pos b -ℤ y) *ℤ pos z)
products_of d z y b h = products_up (pos b -ℤ y) (pos z) (not_below y (pos b) h) (omega (arith, ints))
