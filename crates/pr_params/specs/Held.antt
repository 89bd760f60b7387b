-- The numbers that intervals hold.
use Rattle.std.specs.Prelude.{ℕ, List, ℤ, map, take}
use Rattle.log_laws.specs.declared.iv.Iv.{Iv}
use Rattle.log_laws.specs.Interval.{ends_of}
use Rattle.case_types.specs.Arithmetic.Numbers.{Numbers}
use Rattle.case_types.specs.Energy.Printed.{ends_in}

abbrev pub numbers_in : ℕ → ℕ → Iv → Iv → List Iv → List Iv → List (List Iv) → List (List Iv) → ℤ → Numbers
numbers_in n lift two e ms bs hs «as» rho = record {
  count = n;
  lift = lift;
  root_two = ends_of two;
  log_e = ends_of e;
  alpha_roots = ends_in n ms;
  covolumes = ends_in n bs;
  bare_attractions = map (ends_in n) (take n hs);
  attractions = map (ends_in n) (take n «as»);
  rho = rho;
}
