-- The ends of an interval over a scale, and the fractions between them.
use Rattle.std.specs.Prelude.{ℕ, ◌<◌, ℤ, pos, ◌*ℤ◌, ◌≤ℤ◌}
use Rattle.log_laws.specs.Fraction.{Fraction}

pub record Ends : Type 0 where
  pub lo : ℤ
  pub hi : ℤ

-- f lies between the ends over the scale
pub record IsBetween (v : Ends) (scale : ℕ) (f : Fraction) : Type 0 where
  pub is_fraction : 0 < f.den
  pub above : (v.lo *ℤ pos f.den) ≤ℤ (f.num *ℤ pos scale)
  pub below : (f.num *ℤ pos scale) ≤ℤ (v.hi *ℤ pos f.den)
