-- The energy of a split from those of its phases, at most.
use Rattle.std.proofs.Common.{ℕ, suc, ◌+◌, ◌*◌, ◌^◌, ◌<◌, ◌≤◌, List, [], ◌∷◌, map, ℤ, pos, negsuc, ◌*ℤ◌, ◌≤ℤ◌, arith, lit<}
use Rattle.std.proofs.lemmas.Int.{ints, clamps}
use Rattle.std.specs.List.{All}
use Rattle.std.proofs.Math.Nat.{mul-le-mul_right, div-mul-le_self}
use Rattle.std.specs.Int.{int_max}
use borrow.Author.Differences.{up, down, le_out, at_most_in, product_is}
use Rattle.log_laws.specs.Fraction.{IsAtMost, product_of, whole}
use Rattle.log_laws.specs.LogSum.{LogSum, AtMost, ratio, scaled, constant}
use Rattle.log_laws.proofs.Exports.{le-ceiling, le-ceil_over, heightened, at_most_adds_at, at_most_scales, at_most_raises, constant_at_most, parts_self}
use Rattle.case_types.specs.Arithmetic.Bounds.{Box, share_down, share_up}
use Rattle.case_types.specs.declared.phases.Phase.{Phase}
use Rattle.case_types.specs.Energy.Divisions.{State, IsState, bits, state_of, moles, energy_of_phases}
use Rattle.case_types.specs.Arithmetic.Splits.{share_of_energy, phase_up, phases_up}

-- m/Q of u is at most s, where s is at least V times u and v times u over 2^60
above_zero : (m Q k v V us ds : ℕ) → m * 2 ^ 60 ≤ V * Q → V * k + ds * 2 ^ 60 ≤ us * 2 ^ 60 → m * k * 2 ^ 40 + ds * (Q * 2 ^ 40) ≤ us * (Q * 2 ^ 40)
above_zero m Q k v V us ds h l =
    let a = mul-le-mul_right k h in
    let b = mul-le-mul_right Q l in
    omega arith

below_zero : (m Q k v us ds : ℕ) → v * Q ≤ m * 2 ^ 60 → ds * 2 ^ 60 ≤ us * 2 ^ 60 + v * k → ds * (Q * 2 ^ 40) ≤ us * (Q * 2 ^ 40) + m * k * 2 ^ 40
below_zero m Q k v us ds h l =
    let a = mul-le-mul_right k h in
    let b = mul-le-mul_right Q l in
    omega arith

-- the share of an energy is at most the share of it that is printed
pub share_step : (m Q : ℕ) (u : ℤ) → 0 < Q → IsAtMost (product_of (ratio m Q) (bits u)) (bits (share_of_energy m Q u))
share_step m Q (pos k) h =
    shared (share_down (2 ^ 60) m Q) (share_up (2 ^ 60) m Q) (share_of_energy m Q (pos k)) (le-ceiling (m * 2 ^ 60) Q h)
    (le-ceil_over (int_max (pos (share_down (2 ^ 60) m Q) *ℤ pos k) (pos (share_up (2 ^ 60) m Q) *ℤ pos k)) (2 ^ 60) (lit< tt))
  where
    shared : (v V : ℕ) (s : ℤ) → m * 2 ^ 60 ≤ V * Q → int_max (pos v *ℤ pos k) (pos V *ℤ pos k) ≤ℤ (s *ℤ pos (2 ^ 60)) →
        ((pos m *ℤ pos k) *ℤ pos (2 ^ 40)) ≤ℤ (s *ℤ pos (Q * 2 ^ 40))
    shared v V s l g =
        let a : (pos V *ℤ pos k) ≤ℤ (s *ℤ pos (2 ^ 60)) = omega (arith, ints, clamps, g) in
        let b = le_out (pos V *ℤ pos k) (s *ℤ pos (2 ^ 60)) a in
        let d : V * k + down s * 2 ^ 60 ≤ up s * 2 ^ 60 = omega (arith, b, product_is s (pos (2 ^ 60))) in
        at_most_in ((pos m *ℤ pos k) *ℤ pos (2 ^ 40)) (s *ℤ pos (Q * 2 ^ 40))
        (omega (arith, product_is s (pos (Q * 2 ^ 40)), above_zero m Q k v V (up s) (down s) l d))
share_step m Q (negsuc k) h =
    shared (share_down (2 ^ 60) m Q) (share_up (2 ^ 60) m Q) (share_of_energy m Q (negsuc k)) (div-mul-le_self (m * 2 ^ 60) Q)
    (le-ceil_over (int_max (pos (share_down (2 ^ 60) m Q) *ℤ negsuc k) (pos (share_up (2 ^ 60) m Q) *ℤ negsuc k)) (2 ^ 60) (lit< tt))
  where
    shared : (v V : ℕ) (s : ℤ) → v * Q ≤ m * 2 ^ 60 → int_max (pos v *ℤ negsuc k) (pos V *ℤ negsuc k) ≤ℤ (s *ℤ pos (2 ^ 60)) →
        ((pos m *ℤ negsuc k) *ℤ pos (2 ^ 40)) ≤ℤ (s *ℤ pos (Q * 2 ^ 40))
    shared v V s l g =
        let a : (pos v *ℤ negsuc k) ≤ℤ (s *ℤ pos (2 ^ 60)) = omega (arith, ints, clamps, g) in
        let b = le_out (pos v *ℤ negsuc k) (s *ℤ pos (2 ^ 60)) a in
        let d : down s * 2 ^ 60 ≤ up s * 2 ^ 60 + v * suc k = omega (arith, b, product_is s (pos (2 ^ 60)), product_is (pos v) (negsuc k)) in
        at_most_in ((pos m *ℤ negsuc k) *ℤ pos (2 ^ 40)) (s *ℤ pos (Q * 2 ^ 40))
        (omega (arith, product_is s (pos (Q * 2 ^ 40)), product_is (pos m *ℤ negsuc k) (pos (2 ^ 40)), product_is (pos m) (negsuc k), below_zero m Q (suc k) v (up s) (down s) l d))

-- an energy of phases is at most the sum of their upper energies, each by its share, where each is at most its own
pub phases_at_most : (n : ℕ) (energy : State → LogSum) (up : Box → ℕ → ℤ) (Q : ℕ) (fs : List Phase) → 0 < Q →
    ((f : Phase) → IsState n (state_of f) → AtMost (energy (state_of f)) (bits (phase_up n up f))) → All (IsState n) (map state_of fs) →
    AtMost (energy_of_phases n energy Q (map state_of fs)) (bits (phases_up n up Q fs))
unfolding energy_of_phases phases_up
phases_at_most n energy up Q [] h each states =
    heightened (constant (whole (pos 0))) (whole (pos 0)) (bits (pos 0)) (parts_self (pos 0) 1 (omega arith)) (parts_self (pos 0) (2 ^ 40) (lit< tt)) (omega arith)
    (constant_at_most (whole (pos 0)) (omega arith))
phases_at_most n energy up Q (f ∷ fs) h each states =
    let m = moles n (state_of f) in
    at_most_adds_at (scaled (ratio m Q) (energy (state_of f))) (energy_of_phases n energy Q (map state_of fs))
    (share_of_energy m Q (phase_up n up f)) (phases_up n up Q fs) (2 ^ 40) (lit< tt)
    (at_most_raises (scaled (ratio m Q) (energy (state_of f))) (product_of (ratio m Q) (bits (phase_up n up f)))
    (bits (share_of_energy m Q (phase_up n up f))) (lit< tt) (share_step m Q (phase_up n up f) h)
    (at_most_scales (ratio m Q) (energy (state_of f)) (bits (phase_up n up f)) h (omega (arith, ints)) (each f (states 0 (state_of f) (omega arith)))))
    (phases_at_most n energy up Q fs h each (λ k d l. states (suc k) d (omega (arith, l))))
