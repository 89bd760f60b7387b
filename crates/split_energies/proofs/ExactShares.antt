-- The energies of shares that are whole: of nothing and of all.
use Rattle.std.proofs.Common.{◌≡◌, ℕ, ◌+◌, ◌-◌, ◌*◌, ◌^◌, ◌<◌, ℤ, pos, neg_ℤ, ◌*ℤ◌, refl, ap, ◌∙◌, arith, lit<}
use Rattle.std.specs.Int.{int_max}
use Rattle.std.proofs.Math.Nat.{zero-div}
use Rattle.std.proofs.lemmas.Int.{ints, clamps}
use Rattle.std.proofs.lemmas.Nat.{div-mul-add}
use Rattle.log_laws.specs.Whole.{ceil_over}
use Rattle.log_laws.proofs.Exports.{floor_over-le, lt-floor_over}
use Rattle.case_types.specs.Arithmetic.Bounds.{share_down, share_up}
use Rattle.case_types.specs.Arithmetic.Splits.{share_of_energy}

ceiling_of : (u : ℤ) → ceil_over (pos (2 ^ 60) *ℤ u) (2 ^ 60) ≡ u
ceiling_of u =
    let x : ℤ = pos (2 ^ 60) *ℤ u in
    let low = floor_over-le (neg_ℤ x) (2 ^ 60) (lit< tt) in
    let high = lt-floor_over (neg_ℤ x) (2 ^ 60) (lit< tt) in
    omega (arith, ints, low, high)

greater_same : (x : ℤ) → int_max x x ≡ x
greater_same x = omega (arith, ints, clamps)

-- a share that is whole either way
exact_share : (m q w : ℕ) (u : ℤ) → share_down (2 ^ 60) m q ≡ w → share_up (2 ^ 60) m q ≡ w → share_of_energy m q u ≡ ceil_over (pos w *ℤ u) (2 ^ 60)
exact_share m q w u down up = rw (down, up, greater_same (pos w *ℤ u)) refl

pub whole_share : (w : ℕ) (u : ℤ) → 0 < w → share_of_energy w w u ≡ u
whole_share w u some =
    let turned : w * 2 ^ 60 ≡ 2 ^ 60 * w = omega arith in
    let plain : 2 ^ 60 * w ≡ 2 ^ 60 * w + 0 = omega arith in
    exact_share w w (2 ^ 60) u
    (rw (turned, plain) (div-mul-add (2 ^ 60) w 0 some)) (rw turned (div-mul-add (2 ^ 60) w (w - 1) (omega (arith, some))))
    ∙ ceiling_of u

no_product : (u : ℤ) → pos 0 *ℤ u ≡ pos 0
no_product u = omega (arith, ints)

pub no_share : (q : ℕ) (u : ℤ) → 0 < q → share_of_energy 0 q u ≡ pos 0
no_share q u some =
    let none : 0 + (q - 1) ≡ 0 * q + (q - 1) = omega arith in
    exact_share 0 q 0 u (zero-div q) (rw none (div-mul-add 0 q (q - 1) (omega (arith, some)))) ∙ ap (λ z. ceil_over z (2 ^ 60)) (no_product u)

pub share_same : (m p q r : ℕ) (u v : ℤ) → m ≡ p → q ≡ r → u ≡ v → share_of_energy m q u ≡ share_of_energy p r v
share_same m p q r u v e f g = rw (e, f, g) refl
