-- The bytes of printed numbers.
use Rattle.std.specs.Prelude.{ℕ, ◌-◌, ◌/◌, ◌%◌, ◌^◌, List, [], ◌∷◌, ◌++◌, length, replicate, ℤ, pos, negsuc, unsigned_abs, codes}
use Rattle.std.specs.Fmt.{decimal}

-- the digits of a number, filled with zeros at the front up to a length
abbrev pub filled_decimal : ℕ → ℕ → List ℕ
filled_decimal len n = replicate (len - length (decimal n)) 48 ++ decimal n

-- `-` before a negative number
abbrev pub minus_of : ℤ → List ℕ
minus_of (pos n) = []
minus_of (negsuc n) = 45 ∷ []

-- a number of units of the last place: the sign, the whole, a point, and the places
abbrev pub fixed_text : ℤ → ℕ → List ℕ
fixed_text v places =
    minus_of v ++ decimal (unsigned_abs v / 10 ^ places) ++ codes "." ++ filled_decimal places (unsigned_abs v % 10 ^ places)
