-- The low of a lawful answer isn't far below 0: it is the low of a leaf, or of the whole domain.
use Rattle.std.proofs.Common.{◌≡◌, ℕ, ◌-◌, ◌*◌, ◌^◌, ◌<◌, ◌≤◌, ◌==◌, inl, inr, Bool, true, false, cond, Option, Some, None, List, ℤ, pos, neg_ℤ, ◌-ℤ◌, ◌≤ℤ◌, unsigned_abs, slice_index, ap, sym, subst, ◌∙◌, arith}
use Rattle.std.specs.Prelude.{nat_lt}
use Rattle.std.proofs.lemmas.Int.{ints}
use Rattle.log_laws.specs.Sums.{list_below}
use Rattle.log_laws.proofs.Exports.{get_or-list_below}
use Rattle.case_types.specs.declared.cases.Case.{Case}
use Rattle.case_types.specs.declared.rounds.Round.{Round}
use Rattle.case_types.specs.Arithmetic.Bounds.{one, energy_low, plane_high, potential}
use Rattle.case_types.specs.Arithmetic.Faults.{fault_of}
use Rattle.case_types.specs.Arithmetic.Numbers.{numbers_of}
use Rattle.case_types.specs.Grid.Cells.{Region, root_region, box_of_region, free_sum, Misses, Plain, Sloped, Step, Ends, Halves, Visit, visits, cell_low}
use Rattle.energy_surface.specs.declared.found.Found.{Found}
use Rattle.energy_surface.specs.Energies.{IsInside}
use Rattle.energy_surface.specs.Rounds.{Start, Own, IsRound}
use Rattle.energy_surface.specs.Searches.{IsLeastLow, IsStepAt, HasLeastLow, low_of}
use Rattle.energy_surface.specs.Surfaces.{plain_low}
use Rattle.pr_surface.specs.PengRobinson.{surface_of}
use Rattle.answer_sizes.proofs.Inside.{root_inside, visit_inside}
use Rattle.answer_sizes.proofs.PlainSize.{energy_least}
use Rattle.answer_sizes.proofs.PlaneOver.{plane_high_at_most}
use Rattle.answer_sizes.proofs.SlopeSize.{slope_low_small}

-- ---- the box of a cell
fraction_small : (a rest : ℕ) (free last : Bool) → a ≤ 2 ^ 20 → rest ≤ 2 ^ 40 → cond free (a * 2 ^ 20) (cond last rest 0) ≤ 2 ^ 40
fraction_small a rest true last h k = omega (arith, h)
fraction_small a rest false true h k = k
fraction_small a rest false false h k = omega arith

box_small : (n : ℕ) (r : Region) → IsInside r → (i : ℕ) → i < 4 → (slice_index (box_of_region n r).lo i ≤ 2 ^ 40) × (slice_index (box_of_region n r).hi i ≤ 2 ^ 40)
box_small n r inside i h = (
  at_place r.lo (one - free_sum n r.hi * 2 ^ 20) inside.free_low (omega arith),
  at_place r.hi (one - free_sum n r.lo * 2 ^ 20) inside.free_high (omega arith),
)
  where
    at_place : (ends : List ℕ) (rest : ℕ) → ((i : ℕ) → slice_index ends i ≤ 2 ^ 20) → rest ≤ 2 ^ 40 →
        slice_index (list_below 4 (λ i. cond (nat_lt i (n - 1)) (slice_index ends i * 2 ^ 20) (cond (i == n - 1) rest 0))) i ≤ 2 ^ 40
    at_place ends rest free k =
        rw (get_or-list_below 4 (λ i. cond (nat_lt i (n - 1)) (slice_index ends i * 2 ^ 20) (cond (i == n - 1) rest 0)) 0 i h)
        (fraction_small (slice_index ends i) rest (nat_lt i (n - 1)) (i == n - 1) (free i) k)

-- ---- the low of a cell
plain_least : (c : Case) (lam : List ℤ) (r : Region) → fault_of c ≡ None → ((i : ℕ) → unsigned_abs (potential lam i) ≤ 2 ^ 70) → IsInside r →
    neg_ℤ (pos (2 ^ 71)) ≤ℤ plain_low (surface_of (numbers_of c)) lam r
unfolding cell_low
plain_least c lam r accepted small inside =
    let n = (numbers_of c).count in
    let x = box_of_region n r in
    let place : (i : ℕ) → i < c.n → i < 4 = λ i h. omega (arith, h, c.few) in
    apart (energy_low (numbers_of c) x r.ylo r.yhi) (plane_high n lam x)
    (energy_least c x r.ylo r.yhi accepted (λ i h. (box_small n r inside i (place i h)).0) (λ i h. (box_small n r inside i (place i h)).1))
    (plane_high_at_most n lam x (2 ^ 70) small)
  where
    apart : (e p : ℤ) → neg_ℤ (pos (2 ^ 56)) ≤ℤ e → p ≤ℤ pos (2 ^ 70) → neg_ℤ (pos (2 ^ 71)) ≤ℤ (e -ℤ p)
    apart e p h k = omega (arith, ints, h, k)

step_least : (c : Case) (lam : List ℤ) (low : ℤ) (r : Region) (t : Step) → fault_of c ≡ None → ((i : ℕ) → unsigned_abs (potential lam i) ≤ 2 ^ 70) → IsInside r →
    IsStepAt (surface_of (numbers_of c)) lam low r t → neg_ℤ (pos (2 ^ 71)) ≤ℤ low
step_least c lam low r (Ends Misses) accepted small inside h = absurd (cc h)
step_least c lam low r (Ends Plain) accepted small inside h =
    let same : plain_low (surface_of (numbers_of c)) lam r ≡ low = cc in subst (λ (z : ℤ). neg_ℤ (pos (2 ^ 71)) ≤ℤ z) same (plain_least c lam r accepted small inside)
step_least c lam low r (Ends Sloped) accepted small inside h = sized low (slope_low_small (numbers_of c) lam r low inside h)
  where
    sized : (z : ℤ) → unsigned_abs z ≤ 2 ^ 64 → neg_ℤ (pos (2 ^ 71)) ≤ℤ z
    sized z h = omega (arith, ints, h)
step_least c lam low r (Halves edge) accepted small inside h = absurd h

-- ---- the low of a search
least_low : (c : Case) (lam : List ℤ) (o : Option ℤ) (low : ℤ) (vs : List Visit) → o ≡ Some low → HasLeastLow (surface_of (numbers_of c)) lam o vs → IsLeastLow (surface_of (numbers_of c)) lam low vs
least_low c lam None low vs e h = absurd (cc e)
least_low c lam (Some x) low vs e h = let same : x ≡ low = cc in subst (λ (z : ℤ). IsLeastLow (surface_of (numbers_of c)) lam z vs) same h

pub last_low_least : (c : Case) (tol : ℕ) (start : Start) (own : Own) (r : Round) (basis : List ℕ) (found : Found) (low : ℤ) → fault_of c ≡ None →
    ((i : ℕ) → unsigned_abs (potential r.plane.lam i) ≤ 2 ^ 70) → low_of found ≡ Some low → IsRound (surface_of (numbers_of c)) c tol start own r basis found →
    neg_ℤ (pos (2 ^ 71)) ≤ℤ low
last_low_least c tol start own r basis found low accepted small is h =
    elim h.plane [
      | inl s ↦
          let search = s.searched in
          let least = least_low c r.plane.lam (low_of found) low (visits search.tree (root_region (numbers_of c).count)) is search.low in
          let at = visit_inside (λ v. IsStepAt (surface_of (numbers_of c)) r.plane.lam low v.region v.step) search.tree (root_region (numbers_of c).count) (root_inside (numbers_of c).count) least.reached in
          step_least c r.plane.lam low at.visit.region at.visit.step accepted small at.inside at.holds
      | inr cut ↦
          let spent : Some (plain_low (surface_of (numbers_of c)) r.plane.lam (root_region (numbers_of c).count)) ≡ Some low = sym (ap low_of cut.spent) ∙ is in
          let same : plain_low (surface_of (numbers_of c)) r.plane.lam (root_region (numbers_of c).count) ≡ low = cc in
          subst (λ (z : ℤ). neg_ℤ (pos (2 ^ 71)) ≤ℤ z) same (plain_least c r.plane.lam (root_region (numbers_of c).count) accepted small (root_inside (numbers_of c).count))
    ]
