-- A number between 2 ^ 40 and 2 ^ 41 raised by some binary places, in 2 ^ -40.
use Rattle.std.proofs.Common.{ℕ, ◌*◌, ◌/◌, ◌%◌, ◌^◌, ◌≤◌, ◌≡◌, arith, lit<}
use Rattle.std.proofs.Math.Nat.{mul-le-mul, pow-le-pow_right, mod-eq_of_lt, mul-div_cancel_left, div-le_of_le-mul}
use Rattle.std.proofs.lemmas.Nat.{le-div}
use Rattle.log_laws.proofs.Exports.{pow_pos_of}

-- nothing is lost
pub raised_fits : (m s : ℕ) → m ≤ 2 ^ 41 → s ≤ 51 → m * 2 ^ s % 2 ^ 128 ≡ m * 2 ^ s
raised_fits m s h l =
    let p : 2 ^ s ≤ 2 ^ 51 = pow-le-pow_right (lit< tt) l in
    let q : m * 2 ^ s ≤ 2 ^ 41 * 2 ^ 51 = mul-le-mul h p in
    mod-eq_of_lt (omega arith)

pub raised_low : (m s : ℕ) → 2 ^ 40 ≤ m → 1 ≤ m * 2 ^ s / 2 ^ 40
raised_low m s h =
    let p : 1 ≤ 2 ^ s = pow_pos_of 2 s (lit< tt) in
    let q : 2 ^ 40 * 1 ≤ m * 2 ^ s = mul-le-mul h p in
    le-div 1 (m * 2 ^ s) (2 ^ 40) (lit< tt) (omega arith)

pub raised_high : (m s : ℕ) → m ≤ 2 ^ 41 → s ≤ 51 → m * 2 ^ s / 2 ^ 40 ≤ 2 ^ 52
raised_high m s h l =
    let p : 2 ^ s ≤ 2 ^ 51 = pow-le-pow_right (lit< tt) l in
    let q : m * 2 ^ s ≤ 2 ^ 41 * 2 ^ 51 = mul-le-mul h p in
    div-le_of_le-mul (2 ^ 40) (omega arith)

pub raised_exact : (m s : ℕ) → m ≡ 2 ^ 40 → m * 2 ^ s / 2 ^ 40 ≡ 2 ^ s
raised_exact m s e = rw e (mul-div_cancel_left (2 ^ s) (lit< tt))
