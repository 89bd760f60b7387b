-- What an answer of a flash says of a surface and a case: its split, its numbers, and the cause of its outcome.
use Rattle.std.specs.Prelude.{ℕ, ◌*◌, ◌^◌, ◌≤◌, ◌≡◌, Option, Some, None, ℤ, pos, neg_ℤ, ◌-ℤ◌, ◌≤ℤ◌, ◌<ℤ◌, ◌⊎◌}
use Rattle.case_types.specs.declared.cases.Case.{Case}
use Rattle.case_types.specs.declared.answers.Answer.{Answer}
use Rattle.case_types.specs.declared.answers.Outcome.{Outcome}
use Rattle.case_types.specs.declared.answers.Outcome.TheVariants as Outcomes
use Rattle.case_types.specs.Arithmetic.Bounds.{plane_at}
use Rattle.case_types.specs.Grid.Cells.{region_of, root_region}
use Rattle.case_types.specs.Energy.Divisions.{Divides, division_of}
use Rattle.case_types.specs.Arithmetic.Splits.{split_up}
use Rattle.energy_surface.specs.declared.found.Found.{Found}
use Rattle.energy_surface.specs.declared.found.Found.TheVariants.{AllClear, Refuted, Spent, Grain}
use Rattle.energy_surface.specs.Searches.{IsGrainOf}
use Rattle.energy_surface.specs.Surfaces.{Surface, under, plain_low, IsOver}

-- half of the tolerance, in 2^-40 bit
abbrev pub delta_of : ℕ → ℤ
delta_of tol = pos (tol * 2 ^ 19)

-- how a flash ends with a search; where the plane is cut off it goes on
abbrev pub outcome_of : Found → Option Outcome
outcome_of (AllClear low) = Some Outcomes.Closed
outcome_of (Refuted kept) = None
outcome_of (Spent low) = Some Outcomes.Spent
outcome_of (Grain low cell) = Some (Outcomes.Grain cell)

-- why the flash ended as it did: Closed where the low is at least -delta; Spent where all units are, and the low is below -delta or the
-- tree is one leaf, under a plane that no unit was left to search; a cell of Grain can be neither cleared nor halved
abbrev pub HasCause : Surface → ℕ → ℕ → Answer → Outcome → Type 0
HasCause s tol budget a Outcomes.Closed = neg_ℤ (delta_of tol) ≤ℤ a.low
HasCause s tol budget a Outcomes.Spent =
    ((a.low <ℤ neg_ℤ (delta_of tol)) ⊎ (a.low ≡ plain_low s a.plane.lam (root_region s.count))) × (a.units ≡ budget)
HasCause s tol budget a (Outcomes.Grain cell) =
    (a.low <ℤ neg_ℤ (delta_of tol)) × IsGrainOf (under s a.plane.lam (delta_of tol)) (region_of cell) (region_of cell)

-- the low is that of a tree of cells that starts at the whole domain
pub record IsAnswer (s : Surface) (c : Case) (tol budget : ℕ) (a : Answer) : Type 0 where
  pub components : s.count ≡ c.n
  pub divides : Divides c (division_of a.split)
  pub upper : a.u ≡ split_up s.count s.up a.split
  pub gap : a.gap ≡ (a.u -ℤ plane_at c.n a.plane.lam c.z c.total) -ℤ a.low
  pub low : IsOver s a.plane.lam a.low (root_region s.count)
  pub within : a.units ≤ budget
  pub cause : HasCause s tol budget a a.outcome
