-- What every candidate is.
use Rattle.std.specs.Prelude.{ℕ, ◌^◌, ◌<◌, ◌≤◌, List, length, unsigned_abs}
use Rattle.std.specs.List.{All}
use Rattle.case_types.specs.declared.cases.Case.{Case}
use Rattle.case_types.specs.declared.phases.Phase.{Phase}
use Rattle.case_types.specs.declared.phases.Split.{Split}
use Rattle.case_types.specs.Arithmetic.Bounds.{energy_up}
use Rattle.case_types.specs.Arithmetic.Numbers.{numbers_of}
use Rattle.case_types.specs.Arithmetic.Splits.{phase_up}
use Rattle.case_types.specs.Energy.Divisions.{Divides, division_of}
use Rattle.candidate_split.specs.TwoPhases.{IsTwoPhase}

-- the upper energy of the phase is of a size that a column can have
abbrev pub IsShallow : Case → Phase → Type 0
IsShallow c f = unsigned_abs (phase_up c.n (energy_up (numbers_of c)) f) < 2 ^ 49

-- a division of the feed into one or two such phases
pub record IsCandidate (c : Case) (s : Split) : Type 0 where
  pub divides : Divides c (division_of s)
  pub few : length s.phases.items ≤ 2
  pub shallow : All (IsShallow c) s.phases.items

-- a share of the feed, at most the given one, has this composition and packing, and the rest is a liquid
pub record IsCarried (c : Case) (most : ℕ) (y : List ℕ) (packing : ℕ) (s : Split) : Type 0 where
  pub share : ℕ
  pub rest : ℕ
  pub some : 1 ≤ share
  pub at_most : share ≤ most
  pub two : IsTwoPhase c share y packing rest s
  pub divides : Divides c (division_of s)
