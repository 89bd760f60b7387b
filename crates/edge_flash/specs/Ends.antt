-- What is said of a place by a flash and by a walk over the states of one phase.
use Rattle.std.specs.Prelude.{ℕ, ◌≡◌, ◌≢◌, ◌⊎◌, ◌+◌, ◌^◌, if◌then◌else◌, int_le, [], ◌∷◌, None, Some, ℤ, pos, ◌-ℤ◌}
use Rattle.case_types.specs.declared.answers.Answer.{Answer}
use Rattle.case_types.specs.declared.answers.Outcome.{Outcome}
use Rattle.case_types.specs.declared.answers.Outcome.TheVariants as Outcomes
use Rattle.case_types.specs.declared.cases.Case.{Case}
use Rattle.case_types.specs.declared.cells.Cell.{Cell}
use Rattle.case_types.specs.declared.edges.EdgeAnswer.{EdgeAnswer}
use Rattle.case_types.specs.declared.edges.EdgeAnswer.TheVariants.{Bracket, NoEdge, Stopped, Refused}
use Rattle.case_types.specs.declared.edges.EdgeEnd.{EdgeEnd}
use Rattle.case_types.specs.declared.edges.Kind.{Kind}
use Rattle.case_types.specs.declared.edges.Kind.TheVariants.{Divided}
use Rattle.case_types.specs.Arithmetic.Faults.{fault_of}
use Rattle.case_types.specs.Arithmetic.Numbers.{enclosures_of}
use Rattle.case_types.specs.Energy.Divisions.{Certified, division_of}
use Rattle.case_types.specs.Grid.Cells.{Region, region_of}
use Rattle.case_words.specs.declared.boundaries.By.{By}
use Rattle.case_words.specs.declared.boundaries.By.TheVariants.{Pressure, Temperature}
use Rattle.case_words.specs.declared.boundaries.EdgeWords.{EdgeWords}
use Rattle.energy_surface.specs.Lawful.{IsLawful}
use Rattle.energy_surface.specs.Surfaces.{Surface}
use Rattle.fibre_bound.specs.declared.fibres.Fibre.{Fibre}
use Rattle.fibre_bound.specs.declared.fibres.FibreEnd.{FibreEnd}
use Rattle.fibre_bound.specs.declared.fibres.FibreEnd.TheVariants.{Clear, Spent, Grain}
use Rattle.edge_flash.specs.declared.classed.Classed.{Classed}
use Rattle.edge_flash.specs.declared.classed.Classed.TheVariants.{End, Open, Param}
use Rattle.edge_flash.specs.Fibres.{IsWalk}
use Rattle.edge_flash.specs.Phases.{phase_kind, IsKindAt}

-- ---- the case at a place
-- it is the given one, but for the pressure or the temperature, which is the place
abbrev pub pressure_at : By → Case → ℕ → ℕ
pressure_at Pressure c place = place
pressure_at Temperature c place = c.p

abbrev pub temperature_at : By → Case → ℕ → ℕ
temperature_at Pressure c place = c.t
temperature_at Temperature c place = place

pub record IsCaseAt (by : By) (c : Case) (place : ℕ) (there : Case) : Type 0 where
  pub t : there.t ≡ temperature_at by c place
  pub p : there.p ≡ pressure_at by c place
  pub n : there.n ≡ c.n
  pub rows : there.rows ≡ c.rows
  pub k : there.k ≡ c.k
  pub z : there.z ≡ c.z
  pub total : there.total ≡ c.total
  pub edition : there.edition ≡ c.edition

-- ---- an end
-- divided where every state of one phase lies at least 2^-20 bit above the split
abbrev pub kind_of : ℤ → Fibre → Kind
kind_of u f = if int_le (pos (2 ^ 20)) (f.low -ℤ u) then Divided else phase_kind f.packing

-- the gap of the split where it is divided, and that of one phase elsewhere: its energy, less that which no division is below
abbrev pub gap_of : ℤ → ℤ → Fibre → ℤ
gap_of u gap f = if int_le (pos (2 ^ 20)) (f.low -ℤ u) then gap else f.up -ℤ (u -ℤ gap)

-- the end has the numbers of a flash and of a walk
pub record HasNumbers (a : Answer) (f : Fibre) (end : EdgeEnd) : Type 0 where
  pub u : end.u ≡ a.u
  pub packing : end.packing ≡ f.packing
  pub up : end.up ≡ f.up
  pub low : end.low ≡ f.low
  pub kind : end.kind ≡ kind_of a.u f
  pub gap : end.gap ≡ gap_of a.u a.gap f

-- ---- a flash, and a walk over the states of one phase
-- an answer of a flash, certified and lawful, for a case whose parameters are accepted
pub record IsFlashed (s : Surface) (c : Case) (tol budget : ℕ) (a : Answer) : Type 0 where
  pub accepted : fault_of c ≡ None
  pub certified : Certified c (enclosures_of c) (division_of a.split) a.u a.gap
  pub lawful : IsLawful s c tol budget a

-- the flash stays open
pub record IsOpenFlash (s : Surface) (c : Case) (tol budget : ℕ) (outcome : Outcome) (units : ℕ) : Type 0 where
  pub answer : Answer
  pub flashed : IsFlashed s c tol budget answer
  pub same : answer.outcome ≡ outcome
  pub not_closed : outcome ≢ Outcomes.Closed
  pub spent : answer.units ≡ units

-- the packing fractions of a cell of one unit, with no fractions of components
abbrev pub grain_region : ℕ → Region
grain_region packing = record { lo = 0 ∷ 0 ∷ 0 ∷ []; hi = 0 ∷ 0 ∷ 0 ∷ []; ylo = packing; yhi = packing + 1 }

-- how the end of a walk that isn't clear is told as an outcome
abbrev pub Carries : FibreEnd → Outcome → Type 0
Carries Clear outcome = ⊥
Carries Spent outcome = outcome ≡ Outcomes.Spent
Carries (Grain packing) outcome = (cell : Cell) × (outcome ≡ Outcomes.Grain cell) × (region_of cell ≡ grain_region packing)

-- what a flash that closes says beside a walk: an end where the walk is clear, and else the outcome and the units of the walk
abbrev pub TellsBeside : Answer → Fibre → ℕ → Classed → Type 0
TellsBeside a f units (End end) = (f.end ≡ Clear) × HasNumbers a f end
TellsBeside a f units (Open outcome spent) = Carries f.end outcome × (spent ≡ units)
TellsBeside a f units (Param fault) = ⊥

-- a flash closes beside a walk, and they say this
pub record IsBeside (s : Surface) (is_walk : IsWalk) (c : Case) (tol budget : ℕ) (classed : Classed) : Type 0 where
  pub answer : Answer
  pub flashed : IsFlashed s c tol budget answer
  pub closed : answer.outcome ≡ Outcomes.Closed
  pub fibre : Fibre
  pub units : ℕ
  pub walked : is_walk c tol budget units fibre
  pub tells : TellsBeside answer fibre units classed

-- ---- what is said
abbrev pub SaysOf : Surface → IsWalk → Case → ℕ → ℕ → Classed → Type 0
SaysOf s is_walk c tol budget (End end) = IsBeside s is_walk c tol budget (End end)
SaysOf s is_walk c tol budget (Open outcome units) = IsOpenFlash s c tol budget outcome units ⊎ IsBeside s is_walk c tol budget (Open outcome units)
SaysOf s is_walk c tol budget (Param fault) = fault_of c ≡ Some fault

-- of a place of a job: what is said of the case there
pub record SaysAt (surface : Case → Surface) (is_walk : IsWalk) (c : Case) (job : EdgeWords) (place : ℕ) (classed : Classed) : Type 0 where
  pub there : Case
  pub is_there : IsCaseAt job.by c place there
  pub says : SaysOf (surface there) is_walk there job.base.tol job.base.budget classed

-- ---- what the ends of an answer mean
-- the feed is of the end's kind at its place, with its gap
pub record SaysKind (c : Case) (job : EdgeWords) (end : EdgeEnd) : Type 0 where
  pub there : Case
  pub is_there : IsCaseAt job.by c end.at there
  pub is_kind : IsKindAt there job.base.tol end.kind end.gap

abbrev pub SayKinds : Case → EdgeWords → EdgeAnswer → Type 0
SayKinds c job (Bracket lo hi) = SaysKind c job lo × SaysKind c job hi
SayKinds c job (NoEdge lo hi) = SaysKind c job lo × SaysKind c job hi
SayKinds c job (Stopped at outcome units) = Unit {0}
SayKinds c job (Refused at fault) = Unit {0}
