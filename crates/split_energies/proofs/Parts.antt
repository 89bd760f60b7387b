-- The phases of a split that adds up: each has a part and no more than the sum, and a packing inside.
use Rattle.std.proofs.Common.{ℕ, zero, suc, ◌+◌, ◌^◌, ◌<◌, ◌≤◌, ◌≡◌, subst, add-one, List, [], ◌∷◌, map, length, slice_index, slice_index_or, drop, ℤ, ◌+ℤ◌, arith}
use Rattle.std.proofs.Math.ListN.{get_or-map, length-map, drop_of_length-le}
use Rattle.std.proofs.Math.Nat.{eq_of_mul-eq-mul_left}
use Rattle.std.proofs.Math.Seq.{drop-cons}
use Rattle.std.proofs.lemmas.Int.{ints}
use Rattle.case_types.proofs.Exports.{total_positive}
use Rattle.log_laws.specs.Sums.{sum_below}
use Rattle.log_laws.proofs.Exports.{sum_below-scaled, sum_below-scaled_same}
use Rattle.case_types.specs.declared.cases.Case.{Case}
use Rattle.case_types.specs.declared.phases.Phase.{Phase}
use Rattle.case_types.specs.declared.phases.Split.{Split}
use Rattle.case_types.specs.Arithmetic.Bounds.{Box}
use Rattle.case_types.specs.Energy.Components.{feed}
use Rattle.case_types.specs.Energy.Divisions.{Divides, IsState, division_of, state_of, parts_in}
use Rattle.case_types.specs.Arithmetic.Splits.{phases_up, phase_up, share_of_energy}

-- a phase has no more of a component than all have
part_at_most : (fs : List Phase) (k i : ℕ) (d : Phase) → k < length fs → slice_index (slice_index_or fs k d).parts i ≤ parts_in (map state_of fs) i
part_at_most [] k i d h = absurd (omega arith)
part_at_most (f ∷ fs) zero i d h = omega arith
part_at_most (f ∷ fs) (suc k) i d h = let l = part_at_most fs k i d (omega arith) in omega (arith, l)

-- and no more parts than all have
parts_at_most : (n : ℕ) (fs : List Phase) (k : ℕ) (d : Phase) → k < length fs →
    sum_below n (slice_index (slice_index_or fs k d).parts) ≤ sum_below n (parts_in (map state_of fs))
parts_at_most n fs k d h =
    let l = sum_below-scaled n (slice_index (slice_index_or fs k d).parts) (parts_in (map state_of fs)) 1 1
    (λ i l. let p = part_at_most fs k i d h in omega (arith, p)) in
    omega (arith, l)

-- the phases have as many parts together as the sum says
all_parts : (c : Case) (s : Split) → Divides c (division_of s) → sum_below c.n (parts_in (map state_of s.phases.items)) ≡ s.sum
all_parts c s h =
    let e = sum_below-scaled_same c.n c.total s.sum (parts_in (map state_of s.phases.items)) (feed c) h.adds_up in
    let whole : sum_below c.n (feed c) ≡ c.total = c.added in
    let e' = rw whole at e in
    eq_of_mul-eq-mul_left c.total (total_positive c) (sum_below c.n (parts_in (map state_of s.phases.items))) s.sum (omega (arith, e'))

pub record IsPhaseOf (n sum : ℕ) (f : Phase) : Type 0 where
  pub some : 1 ≤ sum_below n (slice_index f.parts)
  pub inside : sum_below n (slice_index f.parts) ≤ sum
  pub packed : 1 ≤ f.packing
  pub not_full : f.packing < 2 ^ 40

pub phase_of : (c : Case) (s : Split) (k : ℕ) (d : Phase) → Divides c (division_of s) → k < length s.phases.items →
    IsPhaseOf c.n s.sum (slice_index_or s.phases.items k d)
phase_of c s k d h l =
    let state : IsState c.n (state_of (slice_index_or s.phases.items k d)) =
    subst (IsState c.n) (get_or-map state_of s.phases.items k d) (h.phases k (state_of d) (rw length-map l)) in
    let parts = parts_at_most c.n s.phases.items k d l in
    let all = all_parts c s h in
    record {
      some = state.some;
      inside = omega (arith, parts, all);
      packed = omega (arith, ints, state.not_empty);
      not_full = omega (arith, ints, state.not_full);
    }

-- ---- the sum so far, and one phase more
pub sum_step : (n : ℕ) (up : Box → ℕ → ℤ) (sum : ℕ) (phases : List Phase) (k : ℕ) (d : Phase) (energy share : ℤ) → k < length phases →
    energy +ℤ phases_up n up sum (drop k phases) ≡ phases_up n up sum phases →
    share ≡ share_of_energy (sum_below n (slice_index (slice_index_or phases k d).parts)) sum (phase_up n up (slice_index_or phases k d)) →
    (energy +ℤ share) +ℤ phases_up n up sum (drop (k + 1) phases) ≡ phases_up n up sum phases
unfolding phases_up
sum_step n up sum phases k d energy share l h e = let step = rw (drop-cons phases k d l) at h in rw add-one (joined energy share _ _ _ e step)
  where
    joined : (energy share s rest whole : ℤ) → share ≡ s → energy +ℤ (s +ℤ rest) ≡ whole → (energy +ℤ share) +ℤ rest ≡ whole
    joined energy share s rest whole e h = omega (arith, ints)

pub sum_end : (n : ℕ) (up : Box → ℕ → ℤ) (sum : ℕ) (phases : List Phase) (k : ℕ) (energy : ℤ) → length phases ≤ k →
    energy +ℤ phases_up n up sum (drop k phases) ≡ phases_up n up sum phases → energy ≡ phases_up n up sum phases
unfolding phases_up
sum_end n up sum phases k energy l h = let step = rw (drop_of_length-le phases l) at h in omega (arith, ints, step)
