-- The plane of an optimal basis is fair for the columns, and for the energy of a split that is near that of the basis.
use Rattle.std.proofs.Common.{◌≡◌, ℕ, ◌≤◌, List, ℤ, pos, ◌+ℤ◌, ◌≤ℤ◌, arith}
use Rattle.std.specs.List.{All}
use Rattle.std.proofs.lemmas.Int.{ints}
use Rattle.case_types.specs.declared.cases.Case.{Case}
use Rattle.case_types.specs.declared.rounds.Column.{Column}
use Rattle.case_types.specs.declared.rounds.Round.{Round}
use Rattle.energy_surface.specs.Columns.{IsColumn}
use Rattle.energy_surface.specs.Program.Bases.{IsBasis}
use Rattle.energy_surface.specs.Program.Pivots.{IsOptimal}
use Rattle.energy_surface.specs.Program.Planes.{plane_of}
use Rattle.energy_surface.specs.Rounds.{quarter_of, slack_of, basis_up, IsFair}
use Rattle.energy_surface.specs.Surfaces.{Surface}
use Rattle.exact_lp.proofs.BasisEnergies.{basis_up_near}
use Rattle.exact_lp.proofs.FairPlanes.{none_deeper}

near_feed : (u up plane : ℤ) (tol : ℕ) → 128 ≤ tol → u ≤ℤ (up +ℤ slack_of tol) → up ≤ℤ (plane +ℤ pos 10) → u ≤ℤ (plane +ℤ quarter_of tol)
near_feed u up plane tol fine h k = omega (arith, ints, fine, h, k)

pub fair : (s : Surface) (c : Case) (tol : ℕ) (cols : List Column) (at : List ℕ) (r : Round) → s.count ≡ c.n → 128 ≤ tol → IsBasis c cols at → IsOptimal c.n cols at →
    All (λ (col : Column). IsColumn s col) cols →
    r.plane.lam ≡ plane_of c.n cols at → r.u ≤ℤ (basis_up s c cols at +ℤ slack_of tol) → IsFair s c tol cols at r
fair s c tol cols at r count fine basis optimal good plane near = record {
  plane = plane;
  optimal = optimal;
  no_deeper = rw plane (none_deeper s c tol cols at count fine basis optimal good);
  near = rw plane (near_feed r.u (basis_up s c cols at) _ tol fine near (basis_up_near s c cols at count basis good));
}
