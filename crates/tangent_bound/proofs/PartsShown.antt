-- The parts of a cell's form mean what they stand for.
use Rattle.std.proofs.Common.{ℕ, ◌+◌, ◌/◌, ◌^◌, ◌≤◌, ◌<◌, ◌≡◌, List, ℤ, None, IsFalse, arith, lit<, slice_index}
use Rattle.std.proofs.lemmas.Int.{ints}
use Rattle.case_types.specs.declared.cases.Case.{Case}
use Rattle.case_types.specs.Arithmetic.Bounds.{one}
use Rattle.case_types.specs.Arithmetic.Faults.{fault_of}
use Rattle.case_types.specs.Arithmetic.Numbers.{numbers_of, enclosures_of}
use Rattle.case_types.specs.Energy.Divisions.{State, IsState}
use Rattle.case_types.specs.Energy.Instances.{Instance, IsInstance}
use Rattle.case_types.specs.Grid.Cells.{Region, IsWithin, middle_sum, misses}
use Rattle.case_types.proofs.Exports.{in_box, none_above_one}
use Rattle.pr_params.proofs.Exports.{count_of, e_exact, enclosures_right, holds_parameters, log_e_of_numbers}
use Rattle.tangent_bound.proofs.SlopeAttraction.{attraction_shows}
use Rattle.tangent_bound.proofs.SlopeCovolume.{lifted_shows, plain_shows}
use Rattle.tangent_bound.proofs.SlopeMiddle.{middle_moles, middle_within}
use Rattle.tangent_bound.proofs.SlopeMixing.{mixing_shows}
use Rattle.tangent_bound.proofs.SlopePacking.{packing_shows}
use Rattle.tangent_bound.proofs.SlopeParts.{PartsShow, middle_state, parts_of, values_at}
use Rattle.tangent_bound.proofs.SlopePlane.{plane_shows}
use Rattle.tangent_bound.proofs.SlopeSteps.{step_of_part, steps_are, steps_to}

pub parts_show : (c : Case) (x : Instance) (lams : List ℤ) (r : Region) (f : State) → fault_of c ≡ None → IsInstance c (enclosures_of c) x →
    r.ylo ≤ one → r.yhi ≤ one → ((i : ℕ) → slice_index r.lo i ≤ 2 ^ 20) → ((i : ℕ) → slice_index r.hi i ≤ 2 ^ 20) → IsFalse (misses c.n r) →
    middle_sum c.n r ≤ 2 ^ 20 → 1 ≤ (r.ylo + r.yhi) / 2 → (r.ylo + r.yhi) / 2 < one → (s : IsState c.n f) → IsWithin c.n r f →
    PartsShow (parts_of (numbers_of c) lams r) (steps_to c.n r f s) (values_at c x lams (middle_state c.n r)) (values_at c x lams f)
parts_show c x lams r f accepted inst ylo yhi lo hi meets sum some room state within =
    let few = c.few in
    let any = c.some in
    let d = steps_to c.n r f state in
    let z = step_of_part c.n r f in
    let all = middle_moles c.n r any few sum in
    let centre_in = middle_within c.n r f few state within all in
    let steps = steps_are c.n r f state few all in
    let in_c = in_box c.n r (middle_state c.n r) few (rw all (lit< tt)) centre_in in
    let in_f = in_box c.n r f few state.some within in
    let holds = holds_parameters c x accepted inst in
    record {
      mixing = mixing_shows (numbers_of c) c.n r f d z (count_of c) any few all state.some steps (rw (log_e_of_numbers c) (enclosures_right c).log_e)
          (rw (e_exact c) (omega (arith, ints))) in_c in_f (none_above_one c.n r few (λ i l. hi i));
      packing = packing_shows c.n r f d z yhi state within centre_in steps;
      lifted = lifted_shows c x r f d z accepted holds all state.some steps in_c in_f;
      plain = plain_shows c x r f d z accepted holds all state.some steps in_c in_f;
      attraction = attraction_shows c x r f d z accepted inst holds all state.some steps in_c in_f;
      plane = plane_shows (numbers_of c) c.n lams r f d z (count_of c) any few all state.some steps;
    }
