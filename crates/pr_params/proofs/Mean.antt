-- The mean attraction over the mean co-volume by natural numbers.
use Rattle.std.proofs.Common.{◌≡◌, ℕ, ◌*◌, ◌/◌, ◌^◌, ◌<◌, pos, refl}
use Rattle.std.specs.Int.{int_min}
use Rattle.log_laws.specs.Whole.{ceil_quotient}
use Rattle.log_laws.proofs.Exports.{ceil_over-pos}
use Rattle.case_types.specs.Arithmetic.Bounds.{Box, covolume_range, attraction_low, attraction_high, ratio_low, ratio_high}
use Rattle.case_types.specs.Arithmetic.Numbers.{Numbers}

-- the ratio at most from natural numbers
pub ratio_high_is : (p : Numbers) (x : Box) (m b : ℕ) → 0 < b → attraction_high p x ≡ pos m → (covolume_range p x).lo ≡ pos b →
    ratio_high p x ≡ int_min (pos (ceil_quotient (m * 2 ^ 47) b)) p.rho
unfolding ratio_high
ratio_high_is p x m b some e g = rw (e, g, ceil_over-pos (m * 2 ^ 47) b some) refl

-- the ratio at least from natural numbers
pub ratio_low_is : (p : Numbers) (x : Box) (m b : ℕ) → attraction_low p x ≡ pos m → (covolume_range p x).hi ≡ pos b →
    ratio_low p x ≡ pos (m * 2 ^ 47 / b)
unfolding ratio_low
ratio_low_is p x m b e g = rw (e, g) refl
