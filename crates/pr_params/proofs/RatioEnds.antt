-- An attraction over a co-volume lies between what their ends make.
use Rattle.std.proofs.Common.{ℕ, ◌+◌, ◌*◌, ◌/◌, ◌^◌, ◌<◌, ◌≤◌, arith}
use Rattle.std.proofs.lemmas.Nat.{pow-add, pow_pos}
use Rattle.std.proofs.Math.Nat.{mul-le-mul_left, mul-le-mul_right, le_of_mul-le-mul_right, div-mul-le_self}
use Rattle.log_laws.specs.Whole.{ceil_quotient}
use Rattle.log_laws.proofs.Exports.{le-ceiling}

-- a floor of ends on the low side is at most the quotient
pub quotient_above : (m n b lift au ad bu bd : ℕ) → m ≤ n → n * ad ≤ au * 2 ^ (49 + lift) → bu * 2 ^ (56 + lift) ≤ b * bd →
    m * 2 ^ 47 / b * (ad * bu) ≤ au * bd * 2 ^ 40
quotient_above m n b lift au ad bu bd e h k =
    let r = m * 2 ^ 47 / b in
    let floor = div-mul-le_self (m * 2 ^ 47) b in
    let h' : n * ad ≤ au * (2 ^ 49 * 2 ^ lift) = rw (pow-add 2 49 lift) at h in
    let k' : bu * (2 ^ 56 * 2 ^ lift) ≤ b * bd = rw (pow-add 2 56 lift) at k in
    let p = mul-le-mul_left (r * ad) k' in
    let q = mul-le-mul_right (ad * bd) floor in
    let s = mul-le-mul_right (ad * bd) e in
    let t = mul-le-mul_right bd h' in
    let l : r * (ad * bu) * 2 ^ lift ≤ au * bd * 2 ^ 40 * 2 ^ lift = omega (arith, p, q, s, t) in
    le_of_mul-le-mul_right l (pow_pos lift)

-- a ceiling of ends on the high side is at least the quotient
pub quotient_below : (m n b lift au ad bu bd : ℕ) → 0 < b → n ≤ m → au * 2 ^ (49 + lift) ≤ n * ad → b * bd ≤ bu * 2 ^ (56 + lift) →
    au * bd * 2 ^ 40 ≤ ceil_quotient (m * 2 ^ 47) b * (ad * bu)
quotient_below m n b lift au ad bu bd some e h k =
    let r = ceil_quotient (m * 2 ^ 47) b in
    let ceil = le-ceiling (m * 2 ^ 47) b some in
    let h' : au * (2 ^ 49 * 2 ^ lift) ≤ n * ad = rw (pow-add 2 49 lift) at h in
    let k' : b * bd ≤ bu * (2 ^ 56 * 2 ^ lift) = rw (pow-add 2 56 lift) at k in
    let p = mul-le-mul_left (r * ad) k' in
    let q = mul-le-mul_right (ad * bd) ceil in
    let s = mul-le-mul_right (ad * bd) e in
    let t = mul-le-mul_right bd h' in
    let l : au * bd * 2 ^ 40 * 2 ^ lift ≤ r * (ad * bu) * 2 ^ lift = omega (arith, p, q, s, t) in
    le_of_mul-le-mul_right l (pow_pos lift)
