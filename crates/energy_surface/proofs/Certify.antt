-- The lows of any surface certify: cover, lows and weak duality, whatever the energy.
use Rattle.std.proofs.Common.{ℕ, zero, suc, ◌-◌, ◌*◌, ◌^◌, ◌≤◌, ◌<◌, ◌≡◌, inl, inr, refl, sym, subst, arith, lit<, true, false, Bool, ◌==◌, nat_lt, cond, if◌then◌else◌, List, [], ◌∷◌, ℤ, pos, ◌+ℤ◌, ◌*ℤ◌, ◌≤ℤ◌, slice_index, slice_set, Option, Some, None}
use Rattle.std.specs.List.{All}
use Rattle.std.proofs.lemmas.Int.{ints}
use Rattle.log_laws.specs.Fraction.{IsAtMost}
use Rattle.log_laws.specs.LogSum.{LogSum, AtMost}
use Rattle.log_laws.specs.Sums.{list_below}
use Rattle.log_laws.proofs.Exports.{at_least_lowers, floor_over-le, mul-le_ℤ, add-mul_ℤ, scale_scale, product_pos}
use Rattle.case_types.specs.declared.cases.Case.{Case}
use Rattle.case_types.specs.declared.phases.Phase.{Phase}
use Rattle.case_types.specs.Arithmetic.Bounds.{plane_at, plane_times, plane_high, box_of_parts, potential}
use Rattle.case_types.specs.Energy.Components.{feed}
use Rattle.case_types.specs.Grid.Cells.{Region, Tree, Leaf, Node, Misses, Plain, Sloped, root_region, lower_half, upper_half, cut, packing_edge, box_of_region, IsWithin, HasLow, cell_low}
use Rattle.case_types.specs.Energy.Divisions.{State, IsState, moles, bits, state_of, division_of, energy_of_phases}
use Rattle.case_types.specs.Arithmetic.Splits.{phase_up, split_up}
use Rattle.case_types.specs.Arithmetic.Bounds.{plane_sum}
use Rattle.case_types.specs.Energy.Weighing.{IsAbovePlane}
use Rattle.case_types.proofs.Exports.{in_box_of_parts, parts_top, in_half, in_root, meets_at, phases_at_most, in_box, none_above_one, above_plane, plane_at_most}
use Rattle.energy_surface.specs.Surfaces.{Surface, plain_low, IsTreeOver, IsOver}
use Rattle.energy_surface.specs.Energies.{IsInside, Bounds, LowsCertify, UppersCertify}
use Rattle.energy_surface.proofs.WeakDuality.{weak_duality}

-- ---- a low may be lowered
lowered_above : (n : ℕ) (energy : State → LogSum) (lam : ℕ → ℤ) (low less : ℤ) (f : State) → 0 < moles n f → less ≤ℤ low →
    IsAbovePlane n energy lam low f → IsAbovePlane n energy lam less f
lowered_above n energy lam low less f some l h = record {
  at_least = at_least_lowers (energy f) (record { num = plane_sum n lam f.parts +ℤ low *ℤ pos (moles n f); den = moles n f * 2 ^ 40 })
      (record { num = plane_sum n lam f.parts +ℤ less *ℤ pos (moles n f); den = moles n f * 2 ^ 40 })
      (product_pos (moles n f) (2 ^ 40) some (lit< tt))
      (mul-le_ℤ (plane_sum n lam f.parts +ℤ less *ℤ pos (moles n f)) (plane_sum n lam f.parts +ℤ low *ℤ pos (moles n f)) (moles n f * 2 ^ 40)
      (let k = mul-le_ℤ less low (moles n f) l in omega (arith, ints, k)))
      h.at_least;
}

-- ---- the halves of a cell lie inside the domain
-- entries stay at most m where a, itself at most m, is put in the place of one
set_at_most : (m : ℕ) (l : List ℕ) (i a : ℕ) → ((j : ℕ) → slice_index l j ≤ m) → a ≤ m → (j : ℕ) → slice_index (slice_set l i a) j ≤ m
set_at_most m [] i a h p j = h j
set_at_most m (x ∷ xs) zero a h p zero = p
set_at_most m (x ∷ xs) zero a h p (suc j) = h (suc j)
set_at_most m (x ∷ xs) (suc i) a h p zero = h 0
set_at_most m (x ∷ xs) (suc i) a h p (suc j) = set_at_most m xs i a (λ j. h (suc j)) p j

halves_inside : (e c : ℕ) (b : Bool) (r : Region) → IsInside r → (b ≡ true → c ≤ 2 ^ 40) → (b ≡ false → c ≤ 2 ^ 20) →
    IsInside (if b then record r { yhi = c } else record r { hi = slice_set r.hi e c })
    × IsInside (if b then record r { ylo = c } else record r { lo = slice_set r.lo e c })
halves_inside e c true r h k g = (
  record { low = h.low; high = k refl; free_low = h.free_low; free_high = h.free_high },
  record { low = k refl; high = h.high; free_low = h.free_low; free_high = h.free_high },
)
halves_inside e c false r h k g = (
  record { low = h.low; high = h.high; free_low = h.free_low; free_high = set_at_most (2 ^ 20) r.hi e c h.free_high (g refl) },
  record { low = h.low; high = h.high; free_low = set_at_most (2 ^ 20) r.lo e c h.free_low (g refl); free_high = h.free_high },
)

cut_inside : (r : Region) (e : ℕ) → IsInside r → (e == packing_edge) ≡ true → cut r e ≤ 2 ^ 40
cut_inside r e h t = rw t (omega (arith, h.low, h.high))

free_cut_inside : (r : Region) (e : ℕ) → IsInside r → (e == packing_edge) ≡ false → cut r e ≤ 2 ^ 20
free_cut_inside r e h t = rw t (let low = h.free_low e in let high = h.free_high e in omega (arith, low, high))

-- ---- the whole domain is inside
zero_at_most : (i : ℕ) → slice_index (0 ∷ 0 ∷ 0 ∷ []) i ≤ 2 ^ 20
zero_at_most zero = omega arith
zero_at_most (suc zero) = omega arith
zero_at_most (suc (suc zero)) = omega arith
zero_at_most (suc (suc (suc i))) = omega arith

full_at_most : (b : Bool) → cond b (2 ^ 20) 0 ≤ 2 ^ 20
full_at_most true = omega arith
full_at_most false = omega arith

root_at_most : (n i : ℕ) → slice_index (root_region n).hi i ≤ 2 ^ 20
unfolding list_below
root_at_most n zero = full_at_most (nat_lt 0 (n - 1))
root_at_most n (suc zero) = full_at_most (nat_lt 1 (n - 1))
root_at_most n (suc (suc zero)) = full_at_most (nat_lt 2 (n - 1))
root_at_most n (suc (suc (suc i))) = omega arith

root_inside : (n : ℕ) → IsInside (root_region n)
root_inside n = record { low = omega arith; high = omega arith; free_low = zero_at_most; free_high = root_at_most n }

-- ---- every state of a cell is above the plane by the low of the cell
cell_holds : (s : Surface) (energy : State → LogSum) (lams : List ℤ) (r : Region) (f : State) → Bounds s energy → s.count ≤ 4 → IsInside r →
    IsState s.count f → IsWithin s.count r f → IsAbovePlane s.count energy (potential lams) (plain_low s lams r) f
unfolding cell_low
cell_holds s energy lams r f bounds few inside state within =
    let n = s.count in
    let box = box_of_region n r in
    let held = in_box n r f few state.some within in
    record {
      at_least = above_plane (energy f) (s.low box r.ylo r.yhi) (plane_high n lams box) (plane_sum n (potential lams) f.parts) (moles n f) state.some
          (plane_at_most n lams box f held)
          (bounds.low box r.ylo r.yhi f (none_above_one n r few (λ i _. inside.free_high i)) inside.high held state within.denser within.thinner);
    }

-- so is it by the slope low of the cell, where there is one
slope_holds : (s : Surface) (energy : State → LogSum) (lams : List ℤ) (low : ℤ) (sloped : Option ℤ) (r : Region) (f : State) → Bounds s energy → IsInside r →
    s.slope lams r ≡ sloped → HasLow low sloped → IsState s.count f → IsWithin s.count r f → IsAbovePlane s.count energy (potential lams) low f
slope_holds s energy lams low None r f bounds inside is over state within = absurd over
slope_holds s energy lams low (Some z) r f bounds inside is over state within =
    lowered_above s.count energy (potential lams) z low f state.some over
    (bounds.slope lams r z f inside (meets_at s.count r f state within) is state within)

-- so is every state of a tree's cell, by the low of the tree
tree_holds : (s : Surface) (energy : State → LogSum) (lams : List ℤ) (low : ℤ) (tree : Tree) (r : Region) (f : State) → Bounds s energy → s.count ≤ 4 →
    IsInside r → IsTreeOver s lams low tree r → IsState s.count f → IsWithin s.count r f → IsAbovePlane s.count energy (potential lams) low f
unfolding IsTreeOver
tree_holds s energy lams low (Leaf Misses) r f bounds few inside over state within = let meets = meets_at s.count r f state within in absurd (cc (meets, over))
tree_holds s energy lams low (Leaf Plain) r f bounds few inside over state within =
    lowered_above s.count energy (potential lams) (plain_low s lams r) low f state.some over (cell_holds s energy lams r f bounds few inside state within)
tree_holds s energy lams low (Leaf Sloped) r f bounds few inside over state within = slope_holds s energy lams low (s.slope lams r) r f bounds inside refl over state within
tree_holds s energy lams low (Node e lower upper) r f bounds few inside over state within =
    let halves = halves_inside e (cut r e) (e == packing_edge) r inside (cut_inside r e inside) (free_cut_inside r e inside) in
    elim (in_half s.count e r f within) [
      | inl l ↦ tree_holds s energy lams low lower (lower_half e r) f bounds few halves.0 over.0 state l
      | inr u ↦ tree_holds s energy lams low upper (upper_half e r) f bounds few halves.1 over.1 state u
    ]

-- every state is above the plane by a low for a tree of the whole domain
all_above : (s : Surface) (energy : State → LogSum) (lams : List ℤ) (low : ℤ) → Bounds s energy → s.count ≤ 4 → IsOver s lams low (root_region s.count) →
    (f : State) → IsState s.count f → IsAbovePlane s.count energy (potential lams) low f
all_above s energy lams low bounds few over f state =
    tree_holds s energy lams low over.tree (root_region s.count) f bounds few (root_inside s.count) over.over state (in_root s.count f few state)

-- ---- the feed
below_feed : (ps pa low : ℤ) (W : ℕ) → (pa *ℤ pos W) ≤ℤ ps → IsAtMost (bits (pa +ℤ low)) (record { num = ps +ℤ low *ℤ pos W; den = W * 2 ^ 40 })
below_feed ps pa low W h =
    rw (← scale_scale (pa +ℤ low) W (2 ^ 40), add-mul_ℤ pa low (pos W))
    (mul-le_ℤ (pa *ℤ pos W +ℤ low *ℤ pos W) (ps +ℤ low *ℤ pos W) (2 ^ 40) (omega (arith, ints, h)))

plane_below : (c : Case) (lams : List ℤ) → 0 < c.total → (plane_at c.n lams c.z c.total *ℤ pos c.total) ≤ℤ plane_sum c.n (potential lams) (feed c)
unfolding plane_at plane_times
plane_below c lams some = floor_over-le (plane_sum c.n (potential lams) (feed c)) c.total some

pub lows_certify : LowsCertify
lows_certify s energy c lam low d bounds count some over divides =
    let each : (f : State) → IsState c.n f → IsAbovePlane c.n energy (potential lam) low f =
    subst (λ (n : ℕ). (f : State) → IsState n f → IsAbovePlane n energy (potential lam) low f) count
    (all_above s energy lam low bounds (omega (arith, count, c.few)) over) in
    at_least_lowers _ (record { num = plane_sum c.n (potential lam) (feed c) +ℤ low *ℤ pos c.total; den = c.total * 2 ^ 40 })
    (bits (plane_at c.n lam c.z c.total +ℤ low)) (lit< tt)
    (below_feed (plane_sum c.n (potential lam) (feed c)) (plane_at c.n lam c.z c.total) low c.total (plane_below c lam some))
    (weak_duality c energy (potential lam) low d divides c.added some each)

-- ---- a split
pub uppers_certify : UppersCertify
uppers_certify s energy c split bounds count divides =
    subst (λ (n : ℕ). AtMost (energy_of_phases n energy split.sum (division_of split).phases) (bits (split_up s.count s.up split))) count
    (phases_at_most s.count energy s.up split.sum split.phases.items divides.positive each (subst (λ (n : ℕ). All (IsState n) (division_of split).phases) (sym count) divides.phases))
  where
    few : s.count ≤ 4
    few = omega (arith, count, c.few)

    each : (f : Phase) → IsState s.count (state_of f) → AtMost (energy (state_of f)) (bits (phase_up s.count s.up f))
    each f state =
        bounds.up (box_of_parts s.count f.parts) f.packing (state_of f) (parts_top s.count f.parts few state.some)
        (in_box_of_parts s.count f few state.some) state refl
