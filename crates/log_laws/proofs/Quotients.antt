-- The order of two quotients, by their whole parts and their rests.
use Rattle.std.proofs.Common.{ℕ, zero, suc, ◌+◌, ◌*◌, ◌/◌, ◌%◌, ◌<◌, ◌≤◌, ◌≡◌, ◌≢◌, ◌⊎◌, inl, inr, refl, sym, ap, ◌∙◌, arith, Less, Equal, Greater}
use Rattle.std.specs.Ordering.{nat_cmp}
use Rattle.std.proofs.Math.Nat.{div-add-mod, mod-lt, mul-le-mul, mul-le-mul_left, mul-le-mul_right, mul-lt-mul_of_pos_right}
use Rattle.std.proofs.lemmas.Bool.{cases_order}
use Rattle.std.proofs.lemmas.Bool.Decides.{nat_tests}

is_less : (x y : ℕ) → x < y → nat_cmp x y ≡ Less
is_less x y h = grind (arith, nat_tests)

is_greater : (x y : ℕ) → y < x → nat_cmp x y ≡ Greater
is_greater x y h = grind (arith, nat_tests)

cmp_add : (x y c : ℕ) → nat_cmp (x + c) (y + c) ≡ nat_cmp x y
cmp_add x y c = grind (arith, nat_tests)

-- q < p, the whole parts of n/d and m/e
below : (n d m e q p r s : ℕ) → 0 < d → 0 < e → n ≡ d * q + r → m ≡ e * p + s → r < d → q < p → n * e < m * d
below n d m e q p r s pos_d pos_e en em l h =
    let a : n < d * p = (let x : d * (q + 1) ≤ d * p = mul-le-mul_left d (omega arith) in omega arith) in
    let b : n * e < d * p * e = mul-lt-mul_of_pos_right a pos_e in
    let c : e * p * d ≤ m * d = mul-le-mul_right d (omega arith) in
    omega arith

pub differ : (n d m e : ℕ) → 0 < d → 0 < e → n / d ≢ m / e → nat_cmp (n / d) (m / e) ≡ nat_cmp (n * e) (m * d)
differ n d m e pos_d pos_e h =
    go (n / d) (m / e) (n % d) (m % e) (sym (div-add-mod n d)) (sym (div-add-mod m e)) (mod-lt n pos_d) (mod-lt m pos_e) h
  where
    go : (q p r s : ℕ) → n ≡ d * q + r → m ≡ e * p + s → r < d → s < e → q ≢ p → nat_cmp q p ≡ nat_cmp (n * e) (m * d)
    go q p r s en em lr ls h = elim (cases_order q p) [
      | inl e' ↦ absurd (h e')
      | inr o ↦ elim o [
        | inl l ↦ is_less q p l ∙ sym (is_less (n * e) (m * d) (below n d m e q p r s pos_d pos_e en em lr l))
        | inr g ↦ is_greater q p g ∙ sym (is_greater (n * e) (m * d) (below m e n d p q s r pos_e pos_d em en ls g))
      ]
    ]

pub rest : (n d m e : ℕ) → n / d ≡ m / e → nat_cmp (n % d * e) (m % e * d) ≡ nat_cmp (n * e) (m * d)
rest n d m e h = go (n / d) (m / e) (n % d) (m % e) (sym (div-add-mod n d)) (sym (div-add-mod m e)) h
  where
    go : (q p r s : ℕ) → n ≡ d * q + r → m ≡ e * p + s → q ≡ p → nat_cmp (r * e) (s * d) ≡ nat_cmp (n * e) (m * d)
    go q p r s en em h =
        let a : n * e ≡ r * e + d * q * e = (let x : n * e ≡ (d * q + r) * e = ap (λ (k : ℕ). k * e) en in omega arith) in
        let b : m * d ≡ s * d + d * q * e =
        (let x : m * d ≡ (e * p + s) * d = ap (λ (k : ℕ). k * d) em in let y : e * q * d ≡ e * p * d = ap (λ (k : ℕ). e * k * d) h in omega arith) in
        rw (a, b) (sym (cmp_add (r * e) (s * d) (d * q * e)))

is_equal : (x y : ℕ) → x ≡ y → nat_cmp x y ≡ Equal
is_equal x y h = grind (arith, nat_tests)

positive : (x y : ℕ) → 0 < x → 0 < y → 0 < x * y
positive x y hx hy = let q : 1 * 1 ≤ x * y = mul-le-mul hx hy in omega arith

-- one of the rests is 0
pub none : (r s d e : ℕ) → 0 < d → 0 < e → (r ≡ 0) ⊎ (s ≡ 0) → nat_cmp r s ≡ nat_cmp (r * e) (s * d)
none zero zero d e pos_d pos_e h = is_equal 0 0 refl ∙ sym (is_equal (0 * e) (0 * d) (omega arith))
none zero (suc s) d e pos_d pos_e h = is_less 0 (suc s) (omega arith) ∙ sym (is_less (0 * e) (suc s * d) (let q = positive (suc s) d (omega arith) pos_d in omega arith))
none (suc r) zero d e pos_d pos_e h = is_greater (suc r) 0 (omega arith) ∙ sym (is_greater (suc r * e) (0 * d) (let q = positive (suc r) e (omega arith) pos_e in omega arith))
none (suc r) (suc s) d e pos_d pos_e (inl a) = absurd (omega arith)
none (suc r) (suc s) d e pos_d pos_e (inr b) = absurd (omega arith)

pub turned : (r s d e : ℕ) → nat_cmp (e * r) (d * s) ≡ nat_cmp (r * e) (s * d)
turned r s d e = let a : e * r ≡ r * e = omega arith in let b : d * s ≡ s * d = omega arith in rw (a, b) refl
