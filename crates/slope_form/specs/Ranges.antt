-- Ranges of the steps, as functions of the place.
use Rattle.std.specs.Prelude.{ℕ, List, map, get_or, ℤ, pos}
use Rattle.log_laws.specs.declared.iv.Iv.{Iv}
use Rattle.log_laws.specs.Interval.{ends, ends_of}

abbrev pub from_of : List Iv → ℕ → ℤ
from_of steps j = (get_or (map ends_of steps) j (ends (pos 0) (pos 0))).lo

abbrev pub to_of : List Iv → ℕ → ℤ
to_of steps j = (get_or (map ends_of steps) j (ends (pos 0) (pos 0))).hi
