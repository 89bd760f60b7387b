-- Temperature and pressure as words give them: their places, and their ranges in units of the last place, which are mK and Pa.
use Rattle.std.specs.Prelude.{ℕ}
use Rattle.case_words.specs.declared.boundaries.By.{By}
use Rattle.case_words.specs.declared.boundaries.By.TheVariants.{Pressure, Temperature}

abbrev pub places_of : By → ℕ
places_of Pressure = 0
places_of Temperature = 3

abbrev pub least : By → ℕ
least Pressure = 1000
least Temperature = 50000

abbrev pub greatest : By → ℕ
greatest Pressure = 100000000
greatest Temperature = 1500000

-- the one of a temperature and a pressure that is meant
abbrev pub quantity : By → ℕ → ℕ → ℕ
quantity Pressure t p = p
quantity Temperature t p = t
