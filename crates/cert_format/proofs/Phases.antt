-- The numbers of a phase's line.
use Rattle.std.proofs.Common.{ℕ, suc, ◌+◌, ◌<◌, ◌≡◌, true, List, [], ◌∷◌, length, map, take, slice_index, pos, to_z, ap, arith}
use Rattle.std.specs.Int.{w128}
use Rattle.std.proofs.lemmas.Int.{to_z_pos}
use Rattle.std.proofs.lemmas.List.{take-map}
use Rattle.case_types.specs.Ranges.{are_parts}
use Rattle.case_types.proofs.Exports.{part_small}

-- a part is the same number with a sign
pub part_read : (parts : List ℕ) (i : ℕ) → i < 4 → are_parts parts ≡ true → to_z w128 (slice_index parts i) ≡ pos (slice_index parts i)
part_read parts i h is = to_z_pos w128 (slice_index parts i) (omega (arith, part_small parts i h is))

-- the packing fraction and the first parts, out of all of them
pub phase_numbers : (n y : ℕ) (parts : List ℕ) → length parts ≡ 4
    → take (n + 1) (pos y ∷ pos (slice_index parts 0) ∷ pos (slice_index parts 1) ∷ pos (slice_index parts 2) ∷ pos (slice_index parts 3) ∷ []) ≡ pos y ∷ map pos (take n parts)
phase_numbers n y (a ∷ b ∷ c ∷ d ∷ []) four =
    let more : n + 1 ≡ suc n = omega arith in
    rw more (ap (λ zs. pos y ∷ zs) (take-map pos n (a ∷ b ∷ c ∷ d ∷ [])))
phase_numbers n y [] four = absurd (omega (arith, four))
phase_numbers n y (a ∷ []) four = absurd (omega (arith, four))
phase_numbers n y (a ∷ b ∷ []) four = absurd (omega (arith, four))
phase_numbers n y (a ∷ b ∷ c ∷ []) four = absurd (omega (arith, four))
phase_numbers n y (a ∷ b ∷ c ∷ d ∷ e ∷ others) four = absurd (omega (arith, four))
