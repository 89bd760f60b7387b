-- Which kind the feed is of, by what is certified of its energies.
use Rattle.std.specs.Prelude.{ℕ, ◌≡◌, ◌*◌, ◌^◌, nat_le, if◌then◌else◌, ℤ, pos, ◌+ℤ◌, ◌≤ℤ◌}
use Rattle.case_types.specs.declared.cases.Case.{Case}
use Rattle.case_types.specs.declared.edges.Kind.{Kind}
use Rattle.case_types.specs.declared.edges.Kind.TheVariants.{Divided, Liquid, Vapour}
use Rattle.case_types.specs.Arithmetic.Numbers.{enclosures_of}
use Rattle.case_types.specs.Energy.Divisions.{Division, Certified}
use Rattle.fibre_bound.specs.OnePhase.{one_phase, IsBelowOnePhase, IsOnePhase}

-- one phase is called liquid from a packing fraction of 0.2531 on
abbrev pub phase_kind : ℕ → Kind
phase_kind packing = if nat_le (2531 * 2 ^ 40) (10000 * packing) then Liquid else Vapour

-- a split is certified with a gap of at most three quarters of the tolerance, and every state of one phase lies 2^-20 bit above it
pub record DividedAt (c : Case) (tol : ℕ) (gap : ℤ) : Type 0 where
  pub split : Division
  pub u : ℤ
  pub certified : Certified c (enclosures_of c) split u gap
  pub near : gap ≤ℤ pos (3 * tol * 2 ^ 18)
  pub below : IsBelowOnePhase c (u +ℤ pos (2 ^ 20))

-- one phase is certified at a packing fraction, with a gap of at most twice the tolerance
pub record WholeAt (c : Case) (tol : ℕ) (gap : ℤ) (kind : Kind) : Type 0 where
  pub packing : ℕ
  pub up : ℤ
  pub state : IsOnePhase c packing up
  pub certified : Certified c (enclosures_of c) (one_phase c packing) up gap
  pub near : gap ≤ℤ pos (2 * tol * 2 ^ 20)
  pub called : kind ≡ phase_kind packing

abbrev pub IsKindAt : Case → ℕ → Kind → ℤ → Type 0
IsKindAt c tol Divided gap = DividedAt c tol gap
IsKindAt c tol Liquid gap = WholeAt c tol gap Liquid
IsKindAt c tol Vapour gap = WholeAt c tol gap Vapour
