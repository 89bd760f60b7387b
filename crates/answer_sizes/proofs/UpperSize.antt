-- The upper energy of a split is small where those of its phases are.
use Rattle.std.proofs.Common.{◌≡◌, ℕ, zero, suc, ◌*◌, ◌^◌, ◌<◌, ◌≤◌, ◌⊎◌, inl, inr, List, [], ◌∷◌, map, length, ℤ, pos, negsuc, ◌+ℤ◌, ◌*ℤ◌, unsigned_abs, slice_index, arith}
use Rattle.std.specs.Int.{int_max}
use Rattle.std.specs.List.{All}
use Rattle.std.proofs.Math.Nat.{mul-le-mul, eq_of_mul-eq-mul_left}
use Rattle.std.proofs.lemmas.Int.{ints, clamps}
use borrow.Author.Differences.{product_is}
use Rattle.log_laws.specs.Sums.{sum_below}
use Rattle.log_laws.specs.Whole.{ceil_over, ceil_quotient}
use Rattle.log_laws.proofs.Exports.{floor-le-ceiling, ceiling_at_most, sum_below-scaled, sum_below-scaled_same}
use Rattle.case_types.specs.declared.cases.Case.{Case}
use Rattle.case_types.specs.declared.phases.Phase.{Phase}
use Rattle.case_types.specs.declared.phases.Split.{Split}
use Rattle.case_types.specs.Arithmetic.Bounds.{Box, share_down, share_up}
use Rattle.case_types.specs.Arithmetic.Splits.{share_of_energy, phase_up, phases_up, split_up}
use Rattle.case_types.specs.Energy.Components.{feed}
use Rattle.case_types.specs.Energy.Divisions.{Divides, division_of, state_of, parts_in}
use Rattle.case_types.proofs.Exports.{total_positive}

-- ---- a share of at most one of an energy
share_times : (w : ℕ) (u : ℤ) → w ≤ 2 ^ 60 → unsigned_abs u ≤ 2 ^ 49 → unsigned_abs (pos w *ℤ u) ≤ 2 ^ 109
share_times w (pos k) h l = omega (arith, ints, mul-le-mul h l)
share_times w (negsuc k) h l = omega (arith, ints, product_is (pos w) (negsuc k), mul-le-mul h l)

greater_small : (a b : ℤ) (limit : ℕ) → unsigned_abs a ≤ limit → unsigned_abs b ≤ limit → unsigned_abs (int_max a b) ≤ limit
greater_small a b limit h k = elim (greater a b) [ inl e ↦ rw e h | inr e ↦ rw e k ]
  where
    greater : (a b : ℤ) → (int_max a b ≡ a) ⊎ (int_max a b ≡ b)
    greater a b = grind (arith, ints, clamps)

raised_small : (z : ℤ) → unsigned_abs z ≤ 2 ^ 109 → unsigned_abs (ceil_over z (2 ^ 60)) ≤ 2 ^ 49
raised_small (pos zero) h = omega arith
raised_small (pos (suc a)) h = omega (arith, ints, h)
raised_small (negsuc a) h = omega (arith, ints, h)

share_small : (m q : ℕ) (u : ℤ) → 0 < q → m ≤ q → unsigned_abs u ≤ 2 ^ 49 → unsigned_abs (share_of_energy m q u) ≤ 2 ^ 49
share_small m q u some inside small =
    let high : ceil_quotient (m * 2 ^ 60) q ≤ 2 ^ 60 = ceiling_at_most (m * 2 ^ 60) q (2 ^ 60) some (omega (arith, inside)) in
    let low : share_down (2 ^ 60) m q ≤ 2 ^ 60 = omega (arith, high, floor-le-ceiling (m * 2 ^ 60) q some) in
    raised_small (int_max (pos (share_down (2 ^ 60) m q) *ℤ u) (pos (share_up (2 ^ 60) m q) *ℤ u))
    (greater_small (pos (share_down (2 ^ 60) m q) *ℤ u) (pos (share_up (2 ^ 60) m q) *ℤ u) (2 ^ 109)
    (share_times (share_down (2 ^ 60) m q) u low small) (share_times (share_up (2 ^ 60) m q) u high small))

-- ---- the shares of phases that have no more parts than the sum
one_more : (a b : ℤ) (k : ℕ) → unsigned_abs a ≤ 2 ^ 49 → unsigned_abs b ≤ k * 2 ^ 49 → unsigned_abs (a +ℤ b) ≤ suc k * 2 ^ 49
one_more a b k h l = omega (arith, ints, h, l)

shares_small : (n : ℕ) (up : Box → ℕ → ℤ) (q : ℕ) (fs : List Phase) → 0 < q → sum_below n (parts_in (map state_of fs)) ≤ q →
    All (λ (f : Phase). unsigned_abs (phase_up n up f) < 2 ^ 49) fs → unsigned_abs (phases_up n up q fs) ≤ length fs * 2 ^ 49
unfolding phases_up
shares_small n up q [] some inside small = omega arith
shares_small n up q (f ∷ fs) some inside small =
    let here : sum_below n (slice_index f.parts) ≤ sum_below n (parts_in (map state_of (f ∷ fs))) = no_more (slice_index f.parts) (parts_in (map state_of (f ∷ fs))) (λ i. omega arith) in
    let rest : sum_below n (parts_in (map state_of fs)) ≤ sum_below n (parts_in (map state_of (f ∷ fs))) = no_more (parts_in (map state_of fs)) (parts_in (map state_of (f ∷ fs))) (λ i. omega arith) in
    let own : unsigned_abs (phase_up n up f) < 2 ^ 49 = small 0 f (omega arith) in
    one_more (share_of_energy (sum_below n (slice_index f.parts)) q (phase_up n up f)) (phases_up n up q fs) (length fs)
    (share_small (sum_below n (slice_index f.parts)) q (phase_up n up f) some (omega (arith, here, inside)) (omega (arith, own)))
    (shares_small n up q fs some (omega (arith, rest, inside)) (λ k d h. small (suc k) d (omega (arith, h))))
  where
    no_more : (f g : ℕ → ℕ) → ((i : ℕ) → f i ≤ g i) → sum_below n f ≤ sum_below n g
    no_more f g h = let l = sum_below-scaled n f g 1 1 (λ i l. let p = h i in omega (arith, p)) in omega (arith, l)

-- ---- the phases of a split that adds up
all_parts : (c : Case) (s : Split) → Divides c (division_of s) → sum_below c.n (parts_in (map state_of s.phases.items)) ≡ s.sum
all_parts c s h =
    let e = sum_below-scaled_same c.n c.total s.sum (parts_in (map state_of s.phases.items)) (feed c) h.adds_up in
    let whole : sum_below c.n (feed c) ≡ c.total = c.added in
    let e' = rw whole at e in
    eq_of_mul-eq-mul_left c.total (total_positive c) (sum_below c.n (parts_in (map state_of s.phases.items))) s.sum (omega (arith, e'))

pub split_up_small : (c : Case) (up : Box → ℕ → ℤ) (s : Split) → Divides c (division_of s) → length s.phases.items ≤ 4 →
    All (λ (f : Phase). unsigned_abs (phase_up c.n up f) < 2 ^ 49) s.phases.items → unsigned_abs (split_up c.n up s) ≤ 2 ^ 51
split_up_small c up s divides few small =
    let all = all_parts c s divides in
    let l = shares_small c.n up s.sum s.phases.items divides.positive (omega (arith, all)) small in
    omega (arith, l, few)
