-- Fractions: a whole number over a positive whole number.
use Rattle.std.specs.Prelude.{ℕ, ◌*◌, ◌<◌, ◌≡◌, ℤ, pos, ◌+ℤ◌, ◌*ℤ◌, ◌≤ℤ◌, neg_ℤ, ◌<ℤ◌}
use Rattle.log_laws.specs.Whole.{positive_part}

pub record Fraction : Type 0 where
  pub num : ℤ
  pub den : ℕ

abbrev pub IsFraction : Fraction → Type 0
IsFraction f = 0 < f.den

-- the whole number z
abbrev pub whole : ℤ → Fraction
whole z = record { num = z; den = 1 }

abbrev pub sum_of : Fraction → Fraction → Fraction
sum_of f g = record { num = f.num *ℤ pos g.den +ℤ g.num *ℤ pos f.den; den = f.den * g.den }

abbrev pub negated : Fraction → Fraction
negated f = record { num = neg_ℤ f.num; den = f.den }

abbrev pub difference : Fraction → Fraction → Fraction
difference f g = sum_of f (negated g)

abbrev pub product_of : Fraction → Fraction → Fraction
product_of f g = record { num = f.num *ℤ g.num; den = f.den * g.den }

-- f is at most g, by cross products
abbrev pub IsAtMost : Fraction → Fraction → Type 0
IsAtMost f g = (f.num *ℤ pos g.den) ≤ℤ (g.num *ℤ pos f.den)

-- f and g stand for the same number
abbrev pub IsSame : Fraction → Fraction → Type 0
IsSame f g = f.num *ℤ pos g.den ≡ g.num *ℤ pos f.den

-- f over g, where g is positive
abbrev pub quotient_of : Fraction → Fraction → Fraction
quotient_of f g = record { num = f.num *ℤ pos g.den; den = f.den * positive_part g.num }

-- 1 over f, where f is positive
abbrev pub inverse : Fraction → Fraction
inverse f = record { num = pos f.den; den = positive_part f.num }

abbrev pub IsBelow : Fraction → Fraction → Type 0
IsBelow f g = (f.num *ℤ pos g.den) <ℤ (g.num *ℤ pos f.den)
