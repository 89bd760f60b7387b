-- Quotients rounded down and up, and faults that aren't there.
use Rattle.std.proofs.Common.{◌≡◌, ℕ, ◌+◌, ◌-◌, ◌*◌, ◌/◌, ◌^◌, ◌<◌, ◌≤◌, Bool, true, false, ℤ, ◌≤ℤ◌, arith, Option, None}
use Rattle.std.specs.Prelude.{int_lt}
use Rattle.std.proofs.lemmas.Int.{ints}
use Rattle.std.proofs.lemmas.Nat.{pow-add, le-div}
use Rattle.std.proofs.Math.Nat.{mul-le-mul_left, mul-le-mul_right, div-le_of_le-mul, div-lt_iff_lt-mul, div-mul-le_self}
use Rattle.log_laws.specs.Whole.{ceil_quotient}
use Rattle.case_types.specs.declared.cases.ParamFault.{ParamFault}
use Rattle.case_types.specs.Arithmetic.Faults.{or_else, fault_where}
use Rattle.pr_params.proofs.Below.{or_else_none}

-- a fault that isn't there wasn't met
pub where_none : (b : Bool) (f : ParamFault) → fault_where b f ≡ None → b ≡ false
where_none true f e = absurd (cc e)
where_none false f e = cc

-- the first of two faults is none, so neither is there
pub or_where : (b : Bool) (f : ParamFault) (o : Option ParamFault) → or_else (fault_where b f) o ≡ None → (b ≡ false) × (o ≡ None)
or_where b f o e = let both = or_else_none (fault_where b f) o e in (where_none b f both.0, both.1)

pub not_less : (a b : ℤ) → int_lt a b ≡ false → b ≤ℤ a
not_less a b e = grind (arith, ints, e)

pub raised_low : (num den lift : ℕ) → num * 2 ^ lift ≤ 32 * den → num * 2 ^ (56 + lift) ≤ 2 ^ 61 * den
raised_low num den lift h = rw (pow-add 2 56 lift) (let p = mul-le-mul_right (2 ^ 56) h in omega (arith, p))

pub quotient_high : (num den lift : ℕ) → num * 2 ^ lift ≤ 32 * den → num * 2 ^ (56 + lift) / den ≤ 2 ^ 61
quotient_high num den lift h = div-le_of_le-mul den (let p = raised_low num den lift h in omega (arith, p))

pub ceiling_high : (num den lift : ℕ) → 0 < den → num * 2 ^ lift ≤ 32 * den → ceil_quotient (num * 2 ^ (56 + lift)) den ≤ 2 ^ 61
ceiling_high num den lift some h =
    let p = raised_low num den lift h in
    let q : (num * 2 ^ (56 + lift) + (den - 1)) / den < 2 ^ 61 + 1 = (div-lt_iff_lt-mul some).1 (omega (arith, p, some)) in
    omega (arith, q)

-- a floor over more is at most a ceiling over less
pub quotients_ordered : (n d e : ℕ) → 0 < d → d ≤ e → n / e ≤ ceil_quotient n d
quotients_ordered n d e some h =
    le-div (n / e) (n + (d - 1)) d some
    (let p = div-mul-le_self n e in let q = mul-le-mul_left (n / e) h in omega (arith, p, q))
