-- The ends of an interval, in the words of log_laws.
use Rattle.std.specs.Prelude.{ℤ}
use Rattle.log_laws.specs.Between.{Ends}
use Rattle.log_laws.specs.declared.iv.Iv.{Iv}

abbrev pub ends : ℤ → ℤ → Ends
ends lo hi = record { lo = lo; hi = hi }

abbrev pub ends_of : Iv → Ends
ends_of v = ends v.lo v.hi
