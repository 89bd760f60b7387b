-- Weak duality, phase by phase.
use Rattle.std.proofs.Common.{◌≡◌, ℕ, zero, suc, ◌+◌, ◌*◌, ◌^◌, ◌<◌, List, [], ◌∷◌, ℤ, pos, ◌+ℤ◌, ◌*ℤ◌, arith, ap, refl}
use Rattle.std.proofs.lemmas.Int.{ints}
use Rattle.std.specs.List.{All}
use borrow.Author.Differences.{same_in}
use Rattle.log_laws.specs.Fraction.{Fraction, IsAtMost, whole, sum_of, product_of}
use Rattle.log_laws.specs.LogSum.{LogSum, AtLeast, ratio, scaled, added}
use Rattle.case_types.specs.Energy.Components.{feed}
use Rattle.case_types.specs.Energy.Divisions.{State, IsState, moles, parts_in, energy_of_phases}
use Rattle.log_laws.specs.Sums.{sum_below, int_sum_below}
use Rattle.case_types.specs.Arithmetic.Bounds.{plane_sum}
use Rattle.case_types.specs.Energy.Weighing.{IsAbovePlane}
use Rattle.energy_surface.specs.Energies.{WeakDuality}
use Rattle.log_laws.proofs.Exports.{up-mul, down-mul, add-mul_ℤ, scale_scale, scaled_same, parts_self, lowered, constant_at_least, at_least_adds, at_least_scales, at_least_lowers, sum_below-add, sum_below-none, sum_below-scaled_same}

-- S / (N E), weighted by N / Q, and B / (Q E)
weighted_step : (S B : ℤ) (N Q E : ℕ) →
    IsAtMost (record { num = S +ℤ B; den = Q * E })
    (sum_of (product_of (ratio N Q) (record { num = S; den = N * E })) (record { num = B; den = Q * E }))
weighted_step S B N Q E =
    let first : S *ℤ pos ((Q * (N * E)) * (Q * E)) ≡ ((pos N *ℤ S) *ℤ pos (Q * E)) *ℤ pos (Q * E) =
    same_in (S *ℤ pos ((Q * (N * E)) * (Q * E))) (((pos N *ℤ S) *ℤ pos (Q * E)) *ℤ pos (Q * E)) (simp (up-mul, down-mul) (omega arith)) in
    let second : B *ℤ pos ((Q * (N * E)) * (Q * E)) ≡ (B *ℤ pos (Q * (N * E))) *ℤ pos (Q * E) =
    same_in (B *ℤ pos ((Q * (N * E)) * (Q * E))) ((B *ℤ pos (Q * (N * E))) *ℤ pos (Q * E)) (simp (up-mul, down-mul) (omega arith)) in
    rw (add-mul_ℤ S B (pos ((Q * (N * E)) * (Q * E))), add-mul_ℤ ((pos N *ℤ S) *ℤ pos (Q * E)) (B *ℤ pos (Q * (N * E))) (pos (Q * E)), first, second)
    (omega (arith, ints))

abbrev bound_of : ℕ → (ℕ → ℤ) → ℤ → State → ℤ
bound_of n lam low f = plane_sum n lam f.parts +ℤ low *ℤ pos (moles n f)

abbrev bounds_of : ℕ → (ℕ → ℤ) → ℤ → List State → ℤ
bounds_of n lam low [] = pos 0
bounds_of n lam low (f ∷ fs) = bound_of n lam low f +ℤ bounds_of n lam low fs

phases_weigh : (n : ℕ) (energy : State → LogSum) (lam : ℕ → ℤ) (low : ℤ) (Q : ℕ) (fs : List State) → 0 < Q → All (IsState n) fs →
    ((f : State) → IsState n f → IsAbovePlane n energy lam low f) →
    AtLeast (energy_of_phases n energy Q fs) (record { num = bounds_of n lam low fs; den = Q * 2 ^ 40 })
unfolding energy_of_phases
phases_weigh n energy lam low Q [] q a h =
    lowered (energy_of_phases n energy Q []) (whole (pos 0)) (record { num = pos 0; den = Q * 2 ^ 40 })
    (parts_self (pos 0) 1 (omega arith)) (parts_self (pos 0) (Q * 2 ^ 40) (omega (arith, q))) (omega arith)
    (constant_at_least (whole (pos 0)) (omega arith))
phases_weigh n energy lam low Q (f ∷ fs) q a h =
    let state : IsState n f = a 0 f (omega arith) in
    let rest : All (IsState n) fs = λ k d l. a (suc k) d (omega (arith, l)) in
    let phase : Fraction = record { num = bound_of n lam low f; den = moles n f * 2 ^ 40 } in
    let others : Fraction = record { num = bounds_of n lam low fs; den = Q * 2 ^ 40 } in
    at_least_lowers (added (scaled (ratio (moles n f) Q) (energy f)) (energy_of_phases n energy Q fs))
    (sum_of (product_of (ratio (moles n f) Q) phase) others)
    (record { num = bound_of n lam low f +ℤ bounds_of n lam low fs; den = Q * 2 ^ 40 })
    (omega (arith, q))
    (weighted_step (bound_of n lam low f) (bounds_of n lam low fs) (moles n f) Q (2 ^ 40))
    (at_least_adds (scaled (ratio (moles n f) Q) (energy f)) (energy_of_phases n energy Q fs)
    (product_of (ratio (moles n f) Q) phase) others
    (at_least_scales (ratio (moles n f) Q) (energy f) phase q (omega (arith, ints)) (h f state).at_least)
    (phases_weigh n energy lam low Q fs q rest h))

-- ---- sums over phases and components
plane_sum-add : (n : ℕ) (lam : ℕ → ℤ) (p q : ℕ → ℕ) → plane_sum n lam (λ i. p i + q i) ≡ plane_sum n lam p +ℤ plane_sum n lam q
unfolding int_sum_below
plane_sum-add zero lam p q = refl
plane_sum-add (suc n) lam p q = omega (arith, ints, plane_sum-add n lam p q)

plane_sum-none : (n : ℕ) (lam : ℕ → ℤ) → plane_sum n lam (λ i. 0) ≡ pos 0
unfolding int_sum_below
plane_sum-none zero lam = refl
plane_sum-none (suc n) lam = omega (arith, ints, plane_sum-none n lam)

bounds_are : (n : ℕ) (lam : ℕ → ℤ) (low : ℤ) (fs : List State) →
    bounds_of n lam low fs ≡ plane_sum n lam (parts_in fs) +ℤ low *ℤ pos (sum_below n (parts_in fs))
bounds_are n lam low [] =
    let e : plane_sum n lam (parts_in []) ≡ pos 0 = plane_sum-none n lam in
    let k : sum_below n (parts_in []) ≡ 0 = sum_below-none n in
    rw (e, k) (omega (arith, ints))
bounds_are n lam low (f ∷ fs) =
    let e : plane_sum n lam (parts_in (f ∷ fs)) ≡ plane_sum n lam f.parts +ℤ plane_sum n lam (parts_in fs) = plane_sum-add n lam f.parts (parts_in fs) in
    let k : sum_below n (parts_in (f ∷ fs)) ≡ sum_below n f.parts + sum_below n (parts_in fs) = sum_below-add n f.parts (parts_in fs) in
    rw (e, k, bounds_are n lam low fs) (omega (arith, ints))

-- W times the parts are the feed times Q
scaled_plane : (n W Q : ℕ) (lam : ℕ → ℤ) (p z : ℕ → ℕ) → ((i : ℕ) → i < n → W * p i ≡ z i * Q) →
    plane_sum n lam p *ℤ pos W ≡ plane_sum n lam z *ℤ pos Q
unfolding int_sum_below
scaled_plane zero W Q lam p z h = omega (arith, ints)
scaled_plane (suc n) W Q lam p z h =
    rw (
      add-mul_ℤ (plane_sum n lam p) (lam n *ℤ pos (p n)) (pos W),
      add-mul_ℤ (plane_sum n lam z) (lam n *ℤ pos (z n)) (pos Q),
      scaled_plane n W Q lam p z (λ i l. h i (omega (arith, l))),
      scaled_same (lam n) (p n) W (z n) Q (h n (omega arith)),
    ) refl

last_step : (PZ PP low : ℤ) (W Q N E : ℕ) → PP *ℤ pos W ≡ PZ *ℤ pos Q → N * W ≡ W * Q →
    IsAtMost (record { num = PZ +ℤ low *ℤ pos W; den = W * E }) (record { num = PP +ℤ low *ℤ pos N; den = Q * E })
last_step PZ PP low W Q N E plane parts =
    let first : PZ *ℤ pos (Q * E) ≡ PP *ℤ pos (W * E) = rw (← scale_scale PZ Q E, ← scale_scale PP W E, plane) refl in
    let second : (low *ℤ pos W) *ℤ pos (Q * E) ≡ (low *ℤ pos N) *ℤ pos (W * E) =
    scaled_same low W (Q * E) N (W * E) (omega (arith, ap (λ (k : ℕ). k * E) parts)) in
    rw (add-mul_ℤ PZ (low *ℤ pos W) (pos (Q * E)), add-mul_ℤ PP (low *ℤ pos N) (pos (W * E)), first, second) (omega (arith, ints))

pub weak_duality : WeakDuality
weak_duality c energy lam low d divides total some h =
    at_least_lowers (energy_of_phases c.n energy d.sum d.phases)
    (record { num = bounds_of c.n lam low d.phases; den = d.sum * 2 ^ 40 })
    (record { num = plane_sum c.n lam (feed c) +ℤ low *ℤ pos c.total; den = c.total * 2 ^ 40 })
    (omega (arith, some))
    (rw (bounds_are c.n lam low d.phases)
    (last_step (plane_sum c.n lam (feed c)) (plane_sum c.n lam (parts_in d.phases)) low c.total d.sum (sum_below c.n (parts_in d.phases)) (2 ^ 40)
    (scaled_plane c.n c.total d.sum lam (parts_in d.phases) (feed c) divides.adds_up)
    (rw (sum_below-scaled_same c.n c.total d.sum (parts_in d.phases) (feed c) divides.adds_up, total) refl)))
    (phases_weigh c.n energy lam low d.sum d.phases divides.positive divides.phases h)
