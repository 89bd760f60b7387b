-- Rachford and Rice's sum never rises with the share of vapour.
use Rattle.std.proofs.Common.{ℕ, ◌+◌, ◌-◌, ◌*◌, ◌<◌, ◌≤◌, ◌^◌, ◌≡◌, IsTrue, slice_index, arith, ℤ, pos, negsuc, neg_ℤ, ◌*ℤ◌, ◌≤ℤ◌, unsigned_abs, inl, inr}
use Rattle.std.specs.Prelude.{List}
use Rattle.std.proofs.Math.Nat.{mul-le-mul, mul-le-mul_right}
use Rattle.std.proofs.lemmas.Int.{ints}
use Rattle.log_laws.proofs.Exports.{floors_fall, floors_rise, sum-order, mul-neg, products_up, products_down, either_sign}
use Rattle.case_types.specs.declared.cases.Case.{Case}
use Rattle.rachford_rice.specs.Sum.{are_ratios, dilution, excess, transfer, rachford_rice}
use Rattle.rachford_rice.specs.Shares.{NeverRises}
use Rattle.rachford_rice.proofs.Ratios.{ratio_some}

-- with ratios above 1 the divisor rises with the share
more_diluted : (k v w : ℕ) → 2 ^ 32 ≤ k → v ≤ w → (0 < unsigned_abs (dilution k v)) × (unsigned_abs (dilution k v) ≤ unsigned_abs (dilution k w))
more_diluted k v w h g = above (k - 2 ^ 32) k v w (omega (arith, h)) g
  where
    above : (d k v w : ℕ) → k ≡ d + 2 ^ 32 → v ≤ w → (0 < unsigned_abs (dilution k v)) × (unsigned_abs (dilution k v) ≤ unsigned_abs (dilution k w))
    above d k v w e g =
        let x : excess k ≡ pos d = omega (arith, ints, e) in
        rw x (omega (arith), omega (arith, mul-le-mul_right d g))

-- and below 1 it falls, and stays positive
less_diluted : (k v w : ℕ) → 1 ≤ k → k ≤ 2 ^ 32 → v ≤ w → w ≤ 2 ^ 20 → (0 < unsigned_abs (dilution k w)) × (unsigned_abs (dilution k w) ≤ unsigned_abs (dilution k v))
less_diluted k v w some h g last = below (2 ^ 32 - k) k v w (omega (arith, h)) (omega (arith, some, h)) g last
  where
    below : (d k v w : ℕ) → k + d ≡ 2 ^ 32 → d < 2 ^ 32 → v ≤ w → w ≤ 2 ^ 20 → (0 < unsigned_abs (dilution k w)) × (unsigned_abs (dilution k w) ≤ unsigned_abs (dilution k v))
    below d k v w e small g last =
        let x : excess k ≡ neg_ℤ (pos d) = omega (arith, ints, e) in
        let order : v * d ≤ w * d = mul-le-mul_right d g in
        let d_most : d ≤ 2 ^ 32 - 1 = omega (arith, small) in
        let most : w * d ≤ 2 ^ 20 * (2 ^ 32 - 1) = mul-le-mul last d_most in
        rw (x, mul-neg (pos w) (pos d), mul-neg (pos v) (pos d)) (omega (arith, ints, order, most), omega (arith, ints, order, most))

numerator_up : (z k : ℕ) → 2 ^ 32 ≤ k → pos 0 ≤ℤ (pos z *ℤ excess k *ℤ pos (2 ^ 40))
numerator_up z k h = products_up _ _ (products_up (pos z) (excess k) (omega (arith, ints)) (omega (arith, ints, h))) (omega (arith, ints))

numerator_down : (z k : ℕ) → k ≤ 2 ^ 32 → (pos z *ℤ excess k *ℤ pos (2 ^ 40)) ≤ℤ pos 0
numerator_down z k h = products_down _ _ (turned z (excess k) (omega (arith, ints, h))) (omega (arith, ints))
  where
    turned : (z : ℕ) (e : ℤ) → e ≤ℤ pos 0 → (pos z *ℤ e) ≤ℤ pos 0
    turned z (pos e) h = let g : e ≡ 0 = omega (arith, ints, h) in rw g (omega (arith, ints))
    turned z (negsuc e) h = omega (arith, ints)

-- each term falls
term_falls : (z k v w : ℕ) → 1 ≤ k → v ≤ w → w ≤ 2 ^ 20 → transfer z k w ≤ℤ transfer z k v
term_falls z k v w some g last =
    elim (either_sign (excess k)) [
      | inl up ↦
          let more : 2 ^ 32 ≤ k = omega (arith, ints, up) in
          let d = more_diluted k v w more g in
          floors_fall (pos z *ℤ excess k *ℤ pos (2 ^ 40)) (unsigned_abs (dilution k v)) (unsigned_abs (dilution k w)) d.0 d.1 (numerator_up z k more)
      | inr down ↦
          let less : k ≤ 2 ^ 32 = omega (arith, ints, down) in
          let d = less_diluted k v w some less g last in
          floors_rise (pos z *ℤ excess k *ℤ pos (2 ^ 40)) (unsigned_abs (dilution k w)) (unsigned_abs (dilution k v)) d.0 d.1 (numerator_down z k less)
    ]

pub falls : (c : Case) (k : List ℕ) → IsTrue (are_ratios c.n k) → NeverRises (rachford_rice c k)
unfolding rachford_rice
falls c k ratios v w g last =
    sum-order c.n (λ i. transfer (slice_index c.z i) (slice_index k i) w) (λ i. transfer (slice_index c.z i) (slice_index k i) v)
    (λ i h. term_falls (slice_index c.z i) (slice_index k i) v w (ratio_some c.n k i h ratios) g last)
