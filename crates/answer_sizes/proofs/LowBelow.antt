-- The low of an answer is at most its upper energy less the plane at the feed.
use Rattle.std.proofs.Common.{◌≡◌, ℕ, None, ℤ, pos, ◌-ℤ◌, ◌≤ℤ◌, subst, arith}
use Rattle.std.proofs.lemmas.Int.{ints}
use Rattle.case_types.specs.declared.answers.Answer.{Answer}
use Rattle.case_types.specs.declared.cases.Case.{Case}
use Rattle.case_types.specs.Arithmetic.Bounds.{energy_up, plane_at}
use Rattle.case_types.specs.Arithmetic.Faults.{fault_of}
use Rattle.case_types.specs.Arithmetic.Numbers.{numbers_of, enclosures_of}
use Rattle.case_types.specs.Arithmetic.Splits.{split_up}
use Rattle.case_types.specs.Energy.Divisions.{division_of, Certified}
use Rattle.case_types.specs.Grid.Cells.{root_region}
use Rattle.energy_surface.specs.Outcomes.{IsAnswer}
use Rattle.energy_surface.specs.Surfaces.{IsOver}
use Rattle.pr_surface.specs.PengRobinson.{surface_of}
use Rattle.pr_surface.proofs.Exports.{certificates_certify}
use Rattle.answer_sizes.proofs.AnySurface.{gap_positive}

certified : (c : Case) (tol budget : ℕ) (a : Answer) → fault_of c ≡ None → IsAnswer (surface_of (numbers_of c)) c tol budget a →
    Certified c (enclosures_of c) (division_of a.split) a.u a.gap
certified c tol budget a accepted h = certificates_certify c a.split a.u a.plane.lam a.low a.gap (record {
  accepted = accepted;
  divides = h.divides;
  upper = subst (λ (n : ℕ). a.u ≡ split_up n (energy_up (numbers_of c)) a.split) h.components h.upper;
  over = subst (λ (n : ℕ). IsOver (surface_of (numbers_of c)) a.plane.lam a.low (root_region n)) h.components h.low;
  difference = h.gap;
})

pub low_at_most : (c : Case) (tol budget : ℕ) (a : Answer) → fault_of c ≡ None → IsAnswer (surface_of (numbers_of c)) c tol budget a →
    a.low ≤ℤ (a.u -ℤ plane_at c.n a.plane.lam c.z c.total)
low_at_most c tol budget a accepted h =
    let is = certified c tol budget a accepted h in
    from_gap a.u a.gap (plane_at c.n a.plane.lam c.z c.total) a.low h.gap (gap_positive c (division_of a.split) a.u a.gap is)
  where
    from_gap : (u gap p low : ℤ) → gap ≡ (u -ℤ p) -ℤ low → pos 0 ≤ℤ gap → low ≤ℤ (u -ℤ p)
    from_gap u gap p low e h = omega (arith, ints, e, h)
