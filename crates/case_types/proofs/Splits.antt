-- Divisions of sample feeds and their energies.
use Rattle.std.specs.Prelude.{ℕ, zero, suc, ◌≡◌, ◌*◌, ◌^◌, ◌<◌, [], ◌∷◌, pos, neg_ℤ, ◌-ℤ◌, slice_index_or, refl}
use Rattle.std.proofs.Common.{lit<, arith}
use Rattle.std.proofs.lemmas.Int.{ints}
use lib.Count.{count_leading_zeros}
use Rattle.log_laws.specs.Roots.{root_digits, with_digit}
use Rattle.log_laws.specs.Squaring.{down, up, log_down, log_up}
use Rattle.case_types.specs.declared.phases.Phase.{Phase}
use Rattle.case_types.specs.Arithmetic.Bounds.{box_of_parts, covolume_range, ratio_low, ratio_high, lambda_down, lambda_up, attraction_term_low, attraction_term_high, mixing_low, mixing_up, volume_down, volume_up, volume_low, energy_low, energy_up, one}
use Rattle.case_types.specs.Energy.Components.{feed}
use Rattle.case_types.specs.Energy.Divisions.{Division, Divides, State, IsState, parts_in, state_of}
use Rattle.case_types.specs.Arithmetic.Numbers.{numbers_of, enclosures_of, lift_up_to}
use Rattle.case_types.specs.Arithmetic.Splits.{phases_up}
use Rattle.log_laws.specs.Sums.{int_sum_below, list_below, greatest_below, least_below}
use Rattle.case_types.proofs.Samples.{critical_case, binary_case, twin_case}

-- the component under two names has one bit less
pub twin_up : energy_up (numbers_of twin_case) (box_of_parts 2 (1 ∷ 1 ∷ 0 ∷ 0 ∷ [])) (2 ^ 38) ≡ energy_up (numbers_of critical_case) (box_of_parts 1 (1 ∷ 0 ∷ 0 ∷ 0 ∷ [])) (2 ^ 38) -ℤ pos one
unfolding numbers_of enclosures_of lift_up_to list_below greatest_below least_below int_sum_below root_digits with_digit down up log_down log_up covolume_range ratio_low ratio_high lambda_down lambda_up attraction_term_low attraction_term_high mixing_low mixing_up volume_down volume_up volume_low energy_low energy_up count_leading_zeros
twin_up = refl

-- and so has the low of the box of that one composition at that one packing
pub twin_low : energy_low (numbers_of twin_case) (box_of_parts 2 (1 ∷ 1 ∷ 0 ∷ 0 ∷ [])) (2 ^ 38) (2 ^ 38) ≡ energy_low (numbers_of critical_case) (box_of_parts 1 (1 ∷ 0 ∷ 0 ∷ 0 ∷ [])) (2 ^ 38) (2 ^ 38) -ℤ pos one
unfolding numbers_of enclosures_of lift_up_to list_below greatest_below least_below int_sum_below root_digits with_digit down up log_down log_up covolume_range ratio_low ratio_high lambda_down lambda_up attraction_term_low attraction_term_high mixing_low mixing_up volume_down volume_up volume_low energy_low energy_up count_leading_zeros
twin_low = refl

-- one part methane and one part decane in two phases
abbrev pub vapour : Phase
vapour = record { parts = 3 ∷ 1 ∷ 0 ∷ 0 ∷ []; packing = 2 ^ 36 }

abbrev pub liquid : Phase
liquid = record { parts = 1 ∷ 3 ∷ 0 ∷ 0 ∷ []; packing = 2 ^ 39 }

abbrev pub two_phases : Division
two_phases = record { sum = 8; phases = state_of vapour ∷ state_of liquid ∷ [] }

each_state : (k : ℕ) (d : State) → k < 2 → IsState 2 (slice_index_or two_phases.phases k d)
each_state zero d h = record { some = lit< tt; is_fraction = lit< tt; not_empty = omega (arith, ints); not_full = omega (arith, ints) }
each_state (suc zero) d h = record { some = lit< tt; is_fraction = lit< tt; not_empty = omega (arith, ints); not_full = omega (arith, ints) }
each_state (suc (suc k)) d h = absurd (omega (arith, h))

add_up : (i : ℕ) → i < 2 → binary_case.total * parts_in two_phases.phases i ≡ feed binary_case i * two_phases.sum
add_up zero h = refl
add_up (suc zero) h = refl
add_up (suc (suc i)) h = absurd (omega (arith, h))

-- twice the parts of each component is the sum
pub two_phases_add_up : Divides binary_case two_phases
two_phases_add_up = record { positive = lit< tt; phases = each_state; adds_up = add_up }

-- with one part more in the sum they don't add up
pub one_part_short : Divides binary_case (record { sum = 9; phases = state_of vapour ∷ state_of liquid ∷ [] }) → ⊥
one_part_short h = let e : 8 ≡ 9 = h.adds_up 0 (lit< tt) in absurd (omega (arith, e))

-- the energy of the split is the mean of its phases
pub split_weighs : phases_up 2 (energy_up (numbers_of binary_case)) 8 (vapour ∷ liquid ∷ []) ≡ neg_ℤ (pos 3441641006412)
unfolding phases_up numbers_of enclosures_of lift_up_to list_below greatest_below least_below int_sum_below root_digits with_digit down up log_down log_up covolume_range ratio_low ratio_high lambda_down lambda_up attraction_term_low attraction_term_high mixing_low mixing_up volume_down volume_up volume_low energy_low energy_up count_leading_zeros
split_weighs = refl
