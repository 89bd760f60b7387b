-- The energy of phases lies above the sum of their energies, each by its share, by no more than two units a phase.
use Rattle.std.proofs.Common.{◌≡◌, ℕ, suc, ◌+◌, ◌-◌, ◌*◌, ◌^◌, ◌<◌, ◌≤◌, ◌⊎◌, inl, inr, List, [], ◌∷◌, ◌++◌, ℤ, pos, negsuc, ◌+ℤ◌, ◌*ℤ◌, neg_ℤ, ◌≤ℤ◌, ◌<ℤ◌, unsigned_abs, slice_index, ap, sym, ◌∙◌, arith, lit<}
use Rattle.std.specs.Int.{int_max}
use Rattle.std.proofs.Math.Nat.{mul-le-mul_right, div-mul-le_self, lt-div-mul-add}
use Rattle.std.proofs.lemmas.Int.{ints, clamps}
use borrow.Author.Differences.{product_is}
use Rattle.log_laws.specs.Sums.{sum_below}
use Rattle.log_laws.specs.Whole.{ceil_quotient}
use Rattle.log_laws.proofs.Exports.{le-ceiling, mul-le_ℤ, add-mul_ℤ, neg-mul, scale_scale, scale_turned}
use Rattle.case_types.specs.declared.phases.Phase.{Phase}
use Rattle.case_types.specs.Arithmetic.Bounds.{Box, share_down, share_up}
use Rattle.case_types.specs.Arithmetic.Splits.{share_of_energy, phase_up, phases_up}
use Rattle.exact_lp.proofs.KeptColumns.{ceiling_above}

-- ---- a share of an energy
neg_product : (w k : ℕ) → pos w *ℤ negsuc k ≡ neg_ℤ (pos (w * suc k))
neg_product w k = omega (arith, ints, product_is (pos w) (negsuc k))

-- w over 2^60 is m over q, to a unit
near_product : (w m q : ℕ) (u : ℤ) → w * q ≤ m * 2 ^ 60 + q → m * 2 ^ 60 ≤ w * q + q → ((pos w *ℤ u) *ℤ pos q) ≤ℤ (pos (m * 2 ^ 60) *ℤ u +ℤ pos (q * unsigned_abs u))
near_product w m q (pos k) above below = omega (arith, ints, mul-le-mul_right k above)
near_product w m q (negsuc k) above below =
    rw (neg_product w k, neg_product (m * 2 ^ 60) k, neg-mul (pos (w * suc k)) (pos q)) (omega (arith, ints, mul-le-mul_right (suc k) below))

greater_of : (P : ℤ → Type 0) (a b : ℤ) → P a → P b → P (int_max a b)
greater_of P a b h k = elim (greater a b) [ inl e ↦ rw e h | inr e ↦ rw e k ]
  where
    greater : (a b : ℤ) → (int_max a b ≡ a) ⊎ (int_max a b ≡ b)
    greater a b = grind (arith, ints, clamps)

ceiling_below : (n d : ℕ) → 0 < d → ceil_quotient n d * d ≤ n + d
ceiling_below n d h = let l = div-mul-le_self (n + (d - 1)) d in omega (arith, l, h)

down_above : (m q : ℕ) → 0 < q → m * 2 ^ 60 ≤ share_down (2 ^ 60) m q * q + q
down_above m q h = let l = lt-div-mul-add {a = m * 2 ^ 60} h in omega (arith, l)

-- the number that is rounded up
near_shares : (m q : ℕ) (u : ℤ) → 0 < q →
    (int_max (pos (share_down (2 ^ 60) m q) *ℤ u) (pos (share_up (2 ^ 60) m q) *ℤ u) *ℤ pos q) ≤ℤ (pos (m * 2 ^ 60) *ℤ u +ℤ pos (q * unsigned_abs u))
near_shares m q u h =
    greater_of (λ (z : ℤ). (z *ℤ pos q) ≤ℤ (pos (m * 2 ^ 60) *ℤ u +ℤ pos (q * unsigned_abs u))) _ _
    (near_product (share_down (2 ^ 60) m q) m q u (let l = div-mul-le_self (m * 2 ^ 60) q in omega (arith, l)) (down_above m q h))
    (near_product (share_up (2 ^ 60) m q) m q u (ceiling_below (m * 2 ^ 60) q h) (let l = le-ceiling (m * 2 ^ 60) q h in omega (arith, l)))

sizes : (q a : ℕ) → a < 2 ^ 60 → q * a ≤ q * 2 ^ 60
sizes q a h = omega (arith, mul-le-mul_right q (at_most h))
  where
    at_most : a < 2 ^ 60 → a ≤ 2 ^ 60
    at_most h = omega (arith, h)

-- the share is above that of the energy by no more than two units
pub share_near : (m q : ℕ) (u : ℤ) → 0 < q → unsigned_abs u < 2 ^ 60 → (share_of_energy m q u *ℤ pos q) ≤ℤ (pos m *ℤ u +ℤ pos (2 * q))
share_near m q u h small =
    let z = int_max (pos (share_down (2 ^ 60) m q) *ℤ u) (pos (share_up (2 ^ 60) m q) *ℤ u) in
    rounded z (share_of_energy m q u) (pos m *ℤ u) (unsigned_abs u) (ceiling_above z (2 ^ 60) (lit< tt)) (rw (scaled m u) at (near_shares m q u h)) small
  where
    scaled : (m : ℕ) (u : ℤ) → pos (m * 2 ^ 60) *ℤ u ≡ (pos m *ℤ u) *ℤ pos (2 ^ 60)
    scaled m u = omega (arith, ints, product_is (pos (m * 2 ^ 60)) u, product_is (pos m) u)

    rounded : (z e y : ℤ) (a : ℕ) → (e *ℤ pos (2 ^ 60)) <ℤ (z +ℤ pos (2 ^ 60)) → (z *ℤ pos q) ≤ℤ (y *ℤ pos (2 ^ 60) +ℤ pos (q * a)) → a < 2 ^ 60 →
        (e *ℤ pos q) ≤ℤ (y +ℤ pos (2 * q))
    rounded z e y a h k l =
        let le : ((e *ℤ pos (2 ^ 60)) *ℤ pos q) ≤ℤ ((z +ℤ pos (2 ^ 60)) *ℤ pos q) = mul-le_ℤ (e *ℤ pos (2 ^ 60)) (z +ℤ pos (2 ^ 60)) q (omega (arith, ints, h)) in
        let turned : (e *ℤ pos (2 ^ 60)) *ℤ pos q ≡ (e *ℤ pos q) *ℤ pos (2 ^ 60) = scale_scale e (2 ^ 60) q ∙ sym (scale_turned e (2 ^ 60) q) in
        let apart = rw (turned, add-mul_ℤ z (pos (2 ^ 60)) (pos q)) at le in
        omega (arith, ints, apart, k, sizes q a l)

-- ---- phases in a row
plus_none : (a : ℤ) → a +ℤ pos 0 ≡ pos 0 +ℤ a
plus_none a = omega (arith, ints)

regroup : (a b c : ℤ) → a +ℤ (b +ℤ c) ≡ (a +ℤ b) +ℤ c
regroup a b c = omega (arith, ints)

pub phases_up-append : (n : ℕ) (up : Box → ℕ → ℤ) (q : ℕ) (fs : List Phase) (f : Phase) →
    phases_up n up q (fs ++ f ∷ []) ≡ phases_up n up q fs +ℤ share_of_energy (sum_below n (slice_index f.parts)) q (phase_up n up f)
unfolding phases_up
phases_up-append n up q [] f = plus_none (share_of_energy (sum_below n (slice_index f.parts)) q (phase_up n up f))
phases_up-append n up q (g ∷ fs) f =
    ap (λ (t : ℤ). share_of_energy (sum_below n (slice_index g.parts)) q (phase_up n up g) +ℤ t) (phases_up-append n up q fs f)
    ∙ regroup (share_of_energy (sum_below n (slice_index g.parts)) q (phase_up n up g)) (phases_up n up q fs) (share_of_energy (sum_below n (slice_index f.parts)) q (phase_up n up f))
