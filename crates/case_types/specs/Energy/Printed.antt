-- The printed pairs, as intervals hold them.
use Rattle.std.specs.Prelude.{ℕ, List, map, take}
use Rattle.log_laws.specs.Between.{Ends}
use Rattle.log_laws.specs.declared.iv.Iv.{Iv}
use Rattle.log_laws.specs.Interval.{ends_of}
use Rattle.case_types.specs.Energy.Instances.{Enclosures}

-- of the first n intervals
abbrev pub ends_in : ℕ → List Iv → List Ends
ends_in n vs = map ends_of (take n vs)

-- of n components: the pairs of the root of 2, of log2 e, of each component and of each two components
abbrev pub enclosures_in : ℕ → Iv → Iv → List Iv → List Iv → Enclosures
enclosures_in n two e ts qs = record {
  root_two = ends_of two;
  log_e = ends_of e;
  temperature_roots = ends_in n ts;
  pressure_roots = map ends_of qs;
}
