-- Why a cell has its letter, and why a search ends at it.
use Rattle.std.proofs.Common.{◌≡◌, ℕ, ◌+◌, ◌/◌, ◌^◌, ◌≤◌, ◌<◌, ◌-◌, ◌⊎◌, inl, inr, refl, ◌||◌, nat_lt, ◌==◌, Bool, true, false, if◌then◌else◌, Some, None, IsTrue, arith}
use Rattle.std.proofs.lemmas.Bool.{cases_lt}
use Rattle.std.proofs.lemmas.Int.{ints}
use Rattle.case_types.specs.declared.rounds.Column.{Column}
use Rattle.case_types.specs.Grid.Cells.{Region, edge_to_halve, is_unit, GridPoint, middle_sum, middle_point, midpoint}
use Rattle.case_types.specs.Grid.Columns.{point_of}
use Rattle.case_types.specs.Grid.Visits.{HasUnitEdge}
use Rattle.energy_surface.specs.Surfaces.{Under}
use Rattle.energy_surface.specs.Columns.{IsColumn, Refutes}
use Rattle.energy_surface.specs.Searches.{IsUncleared, MiddleRefutes, IsCutOff}

-- ---- the middle of a cell
-- an answer that is there
there : (b : Bool) (x g : GridPoint) → Some g ≡ (if b then None else Some x) → g ≡ x
there true x g e = absurd (let z : Some g ≡ None = e in cc)
there false x g e = let z : Some g ≡ Some x = e in cc

-- the middle that is answered
pub middle_there : (n : ℕ) (r : Region) (g : GridPoint) → Some g ≡ midpoint n r → g ≡ middle_point n r
middle_there n r g e = there (nat_lt (2 ^ 20) (middle_sum n r) || (r.ylo + r.yhi) / 2 == 0) (middle_point n r) g e

pub middle_refutes : (u : Under) (r : Region) (g : GridPoint) → midpoint u.surface.count r ≡ Some g → Refutes u g → MiddleRefutes u r
middle_refutes u r g e h = rw e h

-- ---- cells
-- the column in the middle of the cell in hand is kept
pub cut_off : (u : Under) (kept : Column) (hand : Region) → IsUncleared u hand → midpoint u.surface.count hand ≡ Some (point_of kept) →
    IsColumn u.surface kept → Refutes u (point_of kept) → IsCutOff u kept hand
cut_off u kept hand open_cell e column h = record {
  uncleared = open_cell;
  at_middle = rw (e, ← column.up) (h, omega (arith, ints));
  column = column;
  refutes = h;
}

-- the edge to halve has one unit, or hasn't
pub unit_edge : (n k : ℕ) (r : Region) (edge : ℕ) (b : Bool) → k ≡ n → edge ≡ edge_to_halve n r → b ≡ is_unit r edge → IsTrue b → HasUnitEdge k r
unit_edge n k r edge b e f g h = rw (e, ← f, ← g) h

pub no_unit_edge : (n k : ℕ) (r : Region) (edge : ℕ) (b : Bool) → k ≡ n → edge ≡ edge_to_halve n r → b ≡ is_unit r edge → b ≡ false → HasUnitEdge k r → ⊥
no_unit_edge n k r edge b e f g wide h = let t : IsTrue b = rw (e, ← f, ← g) at h in cc

-- an edge that isn't one unit has two at least
pub wide_edge : (length : ℕ) → 1 ≤ length → (length ≡ 1 → ⊥) → 2 ≤ length
wide_edge length h n =
    elim (cases_lt length 2) [
      | inl less ↦ absurd (n (omega (arith, h, less)))
      | inr more ↦ more
    ]

-- the edge that is halved, by the numbers of the case
pub edge_named : (n k : ℕ) (r : Region) (edge : ℕ) → k ≡ n → edge ≡ edge_to_halve n r → edge ≡ edge_to_halve k r
edge_named n k r edge e f = rw (e, ← f) refl

-- it is a fraction or the packing
pub edge_inside : (n edge : ℕ) → n ≤ 4 → (edge < n - 1) ⊎ (edge ≡ 3) → edge ≤ 3
edge_inside n edge few (inl less) = omega (arith, few, less)
edge_inside n edge few (inr packing) = omega (arith, packing)

-- what isn't spent has a unit left
pub unspent : (spent budget : ℕ) → spent ≤ budget → (spent ≡ budget → ⊥) → spent < budget
unspent spent budget within n =
    elim (cases_lt spent budget) [
      | inl less ↦ less
      | inr more ↦ absurd (n (omega (arith, within, more)))
    ]
