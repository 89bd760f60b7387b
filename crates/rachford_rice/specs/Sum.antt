-- Rachford and Rice's sum, in whole numbers: what the phases differ by at a share of vapour.
use Rattle.std.specs.Prelude.{ℕ, ◌^◌, List, Bool, ◌&&◌, nat_le, ℤ, pos, ◌+ℤ◌, ◌-ℤ◌, ◌*ℤ◌, slice_index}
use Rattle.log_laws.specs.Sums.{all_below, int_sum_below}
use Rattle.log_laws.specs.Whole.{floor_div}
use Rattle.case_types.specs.declared.cases.Case.{Case}

-- each of the first n ratios, in 2^-32, is at most 2^20 and above 0
abbrev pub are_ratios : ℕ → List ℕ → Bool
are_ratios n k = all_below n (λ i. nat_le 1 (slice_index k i) && nat_le (slice_index k i) (2 ^ 52))

-- K - 1, in 2^-32
abbrev pub excess : ℕ → ℤ
excess k = pos k -ℤ pos (2 ^ 32)

-- 1 + V (K - 1), in 2^-52, with V in 2^-20
abbrev pub dilution : ℕ → ℕ → ℤ
dilution k v = pos (2 ^ 52) +ℤ pos v *ℤ excess k

-- z (K - 1) / (1 + V (K - 1)), in 2^-20
abbrev pub transfer : ℕ → ℕ → ℕ → ℤ
transfer z k v = floor_div (pos z *ℤ excess k *ℤ pos (2 ^ 40)) (dilution k v)

-- S: over all live components, in 2^-20
unfoldable pub rachford_rice : Case → List ℕ → ℕ → ℤ
rachford_rice c k v = int_sum_below c.n (λ i. transfer (slice_index c.z i) (slice_index k i) v)
