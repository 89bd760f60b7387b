-- The order of two fractions, and lowest terms.
use Rattle.std.specs.Prelude.{unsigned_abs}
use Rattle.std.specs.Int.{IsGcd}
use Rattle.std.specs.declared.cmp.Ordering.{Ordering}
use Rattle.std.specs.declared.cmp.Ordering.TheVariants.{Less, Equal, Greater}
use Rattle.log_laws.specs.declared.frac.Frac.{Frac}
use Rattle.log_laws.specs.Fraction.{Fraction, IsSame, IsBelow}

-- the number that the pair stands for
abbrev pub fraction_of : Frac → Fraction
fraction_of a = record { num = a.num; den = a.den }

-- f stands to g as the order says
abbrev pub Compares : Ordering → Fraction → Fraction → Type 0
Compares Less f g = IsBelow f g
Compares Equal f g = IsSame f g
Compares Greater f g = IsBelow g f

-- numerator and denominator have no common divisor but 1
abbrev pub IsLowest : Fraction → Type 0
IsLowest f = IsGcd (unsigned_abs f.num) f.den 1
