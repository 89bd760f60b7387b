-- A packing fraction, strictly between 0 and 1, and the logarithms at one.
use Rattle.std.specs.Prelude.{ℕ, ◌-◌, ◌<◌, ◌≡◌, ◌==◌, if◌then◌else◌, ℤ, pos, ◌<ℤ◌}
use Rattle.log_laws.specs.Fraction.{Fraction}
use Rattle.log_laws.specs.Squaring.{log_down, log_up}
use Rattle.case_types.specs.declared.parts.PackingLogs.{PackingLogs}
use Rattle.case_types.specs.Arithmetic.Bounds.{one, lambda_down, lambda_up}
use Rattle.case_types.specs.Arithmetic.Numbers.{Numbers}

pub record IsPacking (y : Fraction) : Type 0 where
  pub is_fraction : 0 < y.den
  pub not_empty : pos 0 <ℤ y.num
  pub not_full : y.num <ℤ pos y.den

-- the logarithm of y in 2^-40, and 0 where y is 0
abbrev pub log_or_none : (ℕ → ℕ → ℤ) → ℕ → ℤ
log_or_none log y = if y == 0 then pos 0 else log y 40

-- they are the logarithms at the packing fraction y in 2^-40
pub record ArePackingLogs (p : Numbers) (y : ℕ) (l : PackingLogs) : Type 0 where
  pub packing : l.packing ≡ y
  pub packing_low : l.packing_low ≡ log_or_none log_down y
  pub packing_high : l.packing_high ≡ log_or_none log_up y
  pub rest_low : l.rest_low ≡ log_or_none log_down (one - y)
  pub rest_high : l.rest_high ≡ log_or_none log_up (one - y)
  pub lambda_low : l.lambda_low ≡ lambda_down p y
  pub lambda_high : l.lambda_high ≡ lambda_up p y
