-- Numbers held to a range.
use Rattle.std.proofs.Common.{◌≡◌, ◌≤◌, ℕ, ℤ, pos, refl, arith, Bool, true, false}
use Rattle.std.specs.Prelude.{◌≤ℤ◌, unsigned_abs, int_le, ◌&&◌, if◌then◌else◌}
use Rattle.std.proofs.lemmas.Int.{ints}
use Rattle.std.proofs.lemmas.Bool.{and_parts}
use Rattle.cert_lines.specs.Forms.{between}
use Rattle.cert_lines.specs.Lines.{IsIn}
use Rattle.cert_lines.specs.Heads.{up_to}
use Rattle.cert_lines.proofs.Exports.{int_le_in, int_le_out}
use Rattle.cert_format.specs.Building.{held, natural}

pub held_is : (low high z : ℤ) → low ≤ℤ z → z ≤ℤ high → held low high z ≡ z
held_is low high z l h = rw (int_le_in low z l, int_le_in z high h) refl

pub natural_is : (low high : ℕ) (z : ℤ) → IsIn (between (pos low) (pos high)) z → pos (natural low high z) ≡ z
natural_is low high z h = rw (held_is (pos low) (pos high) z h.low h.high) (back z (omega (arith, ints, h.low)))
  where
    back : (z : ℤ) → pos 0 ≤ℤ z → pos (unsigned_abs z) ≡ z
    back z l = grind arith

pub up_to_is : (limit : ℕ) (z : ℤ) → pos 0 ≤ℤ z → z ≤ℤ pos limit → pos (up_to limit z) ≡ z
up_to_is limit z l h = rw (int_le_in (pos 0) z l, int_le_in z (pos limit) h) (back z l)
  where
    back : (z : ℤ) → pos 0 ≤ℤ z → pos (unsigned_abs z) ≡ z
    back z l = grind arith

-- it lies in the range
pub record IsBetween (low high z : ℤ) : Type 0 where
  pub above : low ≤ℤ z
  pub below : z ≤ℤ high

pub held_between : (low high z : ℤ) → low ≤ℤ high → IsBetween low high (held low high z)
held_between low high z order = by_test (int_le low z && int_le z high) refl
  where
    by_test : (b : Bool) → (int_le low z && int_le z high) ≡ b → IsBetween low high (if b then z else low)
    by_test true e =
        let p = and_parts (int_le low z) (int_le z high) e in
        record { above = int_le_out low z p.0; below = int_le_out z high p.1 }
    by_test false e = record { above = grind arith; below = order }

pub record IsNaturalBetween (low high n : ℕ) : Type 0 where
  pub above : low ≤ n
  pub below : n ≤ high

pub natural_between : (low high : ℕ) (z : ℤ) → low ≤ high → IsNaturalBetween low high (natural low high z)
natural_between low high z order =
    let h = held_between (pos low) (pos high) z (grind arith) in
    size (held (pos low) (pos high) z) h.above h.below
  where
    size : (z : ℤ) → pos low ≤ℤ z → z ≤ℤ pos high → IsNaturalBetween low high (unsigned_abs z)
    size z l h = record { above = grind arith; below = grind arith }
