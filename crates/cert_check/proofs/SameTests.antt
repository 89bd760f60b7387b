-- Heads that say the same pass the same tests.
use Rattle.std.proofs.Common.{◌≡◌, ℕ, ◌+◌, map, refl, sym, subst, ◌∙◌, arith, Some, None, ap}
use Rattle.std.specs.Prelude.{if◌then◌else◌}
use Rattle.log_laws.specs.Between.{Ends}
use Rattle.log_laws.specs.Interval.{ends_of}
use Rattle.log_laws.specs.Sums.{all_below}
use Rattle.log_laws.proofs.Exports.{all_below-same}
use Rattle.case_types.specs.Arithmetic.Bounds.{energy_up}
use Rattle.case_types.specs.Arithmetic.Numbers.{numbers_of, enclosures_of}
use Rattle.case_types.specs.Arithmetic.Same.{ArePotentialsSame}
use Rattle.case_types.specs.Arithmetic.Tables.{ends_at}
use Rattle.case_types.specs.Energy.Instances.{Enclosures, pair_place}
use Rattle.case_types.specs.Grid.Cells.{Region, Mark}
use Rattle.case_types.proofs.Exports.{first_below-same, enclosures-same, numbers-same, fault-same, plane_at-same, phases_up-same, parts_in-same}
use Rattle.cert_format.specs.declared.heads.Head.{Head}
use Rattle.pr_params.proofs.Exports.{count_of}
use Rattle.cert_check.specs.Tests.{are_same, states_pairs, are_good_params, adds_up_at, first_unbalanced, is_energy, is_gap, first_broken, passes}
use Rattle.cert_check.proofs.SameHeads.{AreHeadsSame}
use Rattle.cert_check.proofs.SameLows.{leaf_test-same}

pairs-same : (h g : Head) (e : Enclosures) → AreHeadsSame h g → states_pairs h.params e ≡ states_pairs g.params e
pairs-same h g e s =
    rw (
      ap (λ (v : Ends). v.lo) s.two,
      ap (λ (v : Ends). v.hi) s.two,
      ap (λ (v : Ends). v.lo) s.log_e,
      ap (λ (v : Ends). v.hi) s.log_e,
      all_below-same h.params.case.n (λ i. are_same (ends_at (map ends_of h.params.t) i) (ends_at e.temperature_roots i))
          (λ i. are_same (ends_at (map ends_of g.params.t) i) (ends_at e.temperature_roots i)) (λ i l. rw (s.temperature_roots i l) refl),
      all_below-same h.params.case.n (λ j. all_below j (λ i. are_same (ends_at (map ends_of h.params.q) (pair_place i j)) (ends_at e.pressure_roots (pair_place i j))))
          (λ j. all_below j (λ i. are_same (ends_at (map ends_of g.params.q) (pair_place i j)) (ends_at e.pressure_roots (pair_place i j))))
          (λ j m. all_below-same j (λ i. are_same (ends_at (map ends_of h.params.q) (pair_place i j)) (ends_at e.pressure_roots (pair_place i j)))
          (λ i. are_same (ends_at (map ends_of g.params.q) (pair_place i j)) (ends_at e.pressure_roots (pair_place i j))) (λ i l. rw (s.pressure_roots i j l m) refl)),
      s.case.count,
    ) refl

params-same : (h g : Head) → AreHeadsSame h g → are_good_params h.params ≡ are_good_params g.params
unfolding are_good_params
params-same h g s =
    rw (fault-same h.params.case g.params.case s.case, enclosures-same h.params.case g.params.case s.case, pairs-same h g (enclosures_of g.params.case) s) refl

unbalanced-same : (h g : Head) → AreHeadsSame h g → first_unbalanced h ≡ first_unbalanced g
unfolding first_unbalanced
unbalanced-same h g s =
    rw (
      first_below-same h.params.case.n (λ i. if adds_up_at h i then None else Some (i + 1)) (λ i. if adds_up_at g i then None else Some (i + 1))
          (λ i l. rw (s.case.total, parts_in-same h.params.case.n h.split.phases.items g.split.phases.items i l s.phases, s.case.z i l, s.sum) refl),
      s.case.count,
    ) refl

energy-same : (h g : Head) → AreHeadsSame h g → is_energy h ≡ is_energy g
energy-same h g s =
    let up = energy_up (numbers_of g.params.case) in
    rw (
      numbers-same h.params.case g.params.case s.case,
      phases_up-same h.params.case.n up h.split.sum h.split.phases.items g.split.phases.items s.phases,
      s.sum,
      s.u,
      s.case.count,
    ) refl

gap-same : (h g : Head) → AreHeadsSame h g → is_gap h ≡ is_gap g
gap-same h g s =
    rw (
      plane_at-same h.params.case.n h.plane.lam g.plane.lam h.params.case.z g.params.case.z h.params.case.total s.plane s.case.z,
      s.case.total,
      s.case.count,
      s.u,
      s.low,
      s.gap,
    ) refl

pub broken-same : (h g : Head) → AreHeadsSame h g → first_broken h ≡ first_broken g
unfolding first_broken
broken-same h g s = rw (params-same h g s, unbalanced-same h g s, energy-same h g s, gap-same h g s) refl

pub passes-same : (h g : Head) (r : Region) (mark : Mark) → AreHeadsSame h g → passes h r mark ≡ passes g r mark
passes-same h g r mark s =
    let c = h.params.case in
    let some = c.some in
    let count = count_of c in
    let plane = subst (λ (n : ℕ). ArePotentialsSame n h.plane.lam g.plane.lam) (sym count) s.plane in
    leaf_test-same (numbers_of c) h.plane.lam g.plane.lam h.low r mark (omega (arith, some, count)) plane
    ∙ rw (numbers-same c g.params.case s.case, s.low) refl
