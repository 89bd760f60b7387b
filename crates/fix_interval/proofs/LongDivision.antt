-- Long division.
use Rattle.std.proofs.Common.{◌≡◌, ℕ, ◌+◌, ◌*◌, ◌<◌, ◌≤◌, ◌/◌, ◌%◌, ◌^◌, arith, sym, lit<, ap, add-one}
use Rattle.std.proofs.Math.Nat.{mul-le-mul_left, pow-le-pow_right, pow-suc, mul_right_comm, mul_assoc}
use Rattle.std.proofs.lemmas.Nat.{le-div, div-mul-add}

-- the quotient so far is at most the last one
pub quotient_so_far : (q d r n i b : ℕ) → 0 < d → q * d + r ≡ n * 2 ^ i → i ≤ b → q ≤ n * 2 ^ b / d
quotient_so_far q d r n i b z e h =
    le-div q (n * 2 ^ b) d z (omega (arith, mul-le-mul_left n (pow-le-pow_right {n = 2} (lit< tt) {i = i} {j = b} h)))

pub quotient_step : (q d r n i : ℕ) → q * d + r ≡ n * 2 ^ i → q * 2 * d + r * 2 ≡ n * 2 ^ (i + 1)
quotient_step q d r n i e = rw add-one (omega (arith, e, mul_right_comm q 2 d, ap (λ x. n * x) (pow-suc 2 i), mul_assoc n (2 ^ i) 2))

pub quotient_at_end : (q d r n : ℕ) → r < d → q * d + r ≡ n → q ≡ n / d
quotient_at_end q d r n h e = rw (← e) (sym (div-mul-add q d r h))

pub rest_at_end : (q d r n : ℕ) → r < d → q * d + r ≡ n → r ≡ n % d
rest_at_end q d r n h e =
    let f : q ≡ n / d = quotient_at_end q d r n h e in
    let g : q * d ≡ n / d * d = ap (λ (x : ℕ). x * d) f in
    omega arith
