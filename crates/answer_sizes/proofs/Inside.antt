-- The cells of a tree of the whole domain lie inside it.
use Rattle.std.proofs.Common.{◌≡◌, ℕ, zero, suc, ◌-◌, ◌^◌, ◌≤◌, ◌==◌, ◌⊎◌, inl, inr, Bool, true, false, cond, List, [], ◌∷◌, ◌++◌, slice_index, refl, arith}
use Rattle.std.specs.Prelude.{if◌then◌else◌, nat_lt, slice_set}
use Rattle.log_laws.specs.Sums.{list_below}
use Rattle.case_types.specs.Grid.Cells.{Region, root_region, packing_edge, cut, lower_half, upper_half, Tree, Leaf, Node, Visit, visits, HasVisit}
use Rattle.energy_surface.specs.Energies.{IsInside}

-- ---- halves
-- entries stay at most m where a, itself at most m, is put in the place of one
set_at_most : (m : ℕ) (l : List ℕ) (i a : ℕ) → ((j : ℕ) → slice_index l j ≤ m) → a ≤ m → (j : ℕ) → slice_index (slice_set l i a) j ≤ m
set_at_most m [] i a h p j = h j
set_at_most m (x ∷ xs) zero a h p zero = p
set_at_most m (x ∷ xs) zero a h p (suc j) = h (suc j)
set_at_most m (x ∷ xs) (suc i) a h p zero = h 0
set_at_most m (x ∷ xs) (suc i) a h p (suc j) = set_at_most m xs i a (λ j. h (suc j)) p j

by_edge : (e c : ℕ) (b : Bool) (r : Region) → IsInside r → (b ≡ true → c ≤ 2 ^ 40) → (b ≡ false → c ≤ 2 ^ 20) →
    IsInside (if b then record r { yhi = c } else record r { hi = slice_set r.hi e c })
    × IsInside (if b then record r { ylo = c } else record r { lo = slice_set r.lo e c })
by_edge e c true r h k g = (
  record { low = h.low; high = k refl; free_low = h.free_low; free_high = h.free_high },
  record { low = k refl; high = h.high; free_low = h.free_low; free_high = h.free_high },
)
by_edge e c false r h k g = (
  record { low = h.low; high = h.high; free_low = h.free_low; free_high = set_at_most (2 ^ 20) r.hi e c h.free_high (g refl) },
  record { low = h.low; high = h.high; free_low = set_at_most (2 ^ 20) r.lo e c h.free_low (g refl); free_high = h.free_high },
)

halves_inside : (e : ℕ) (r : Region) → IsInside r → IsInside (lower_half e r) × IsInside (upper_half e r)
halves_inside e r h = by_edge e (cut r e) (e == packing_edge) r h packing free
  where
    packing : (e == packing_edge) ≡ true → cut r e ≤ 2 ^ 40
    packing t = rw t (omega (arith, h.low, h.high))

    free : (e == packing_edge) ≡ false → cut r e ≤ 2 ^ 20
    free t = rw t (let low = h.free_low e in let high = h.free_high e in omega (arith, low, high))

-- ---- the whole domain
pub root_inside : (n : ℕ) → IsInside (root_region n)
unfolding list_below
root_inside n = record { low = omega arith; high = omega arith; free_low = none_above; free_high = all_above }
  where
    none_above : (i : ℕ) → slice_index (0 ∷ 0 ∷ 0 ∷ []) i ≤ 2 ^ 20
    none_above zero = omega arith
    none_above (suc zero) = omega arith
    none_above (suc (suc zero)) = omega arith
    none_above (suc (suc (suc i))) = omega arith

    full : (b : Bool) → cond b (2 ^ 20) 0 ≤ 2 ^ 20
    full true = omega arith
    full false = omega arith

    entry_of : (a b c i : ℕ) → a ≤ 2 ^ 20 → b ≤ 2 ^ 20 → c ≤ 2 ^ 20 → slice_index (a ∷ b ∷ c ∷ []) i ≤ 2 ^ 20
    entry_of a b c zero h k l = h
    entry_of a b c (suc zero) h k l = k
    entry_of a b c (suc (suc zero)) h k l = l
    entry_of a b c (suc (suc (suc i))) h k l = omega arith

    all_above : (i : ℕ) → slice_index (root_region n).hi i ≤ 2 ^ 20
    all_above i = entry_of _ _ _ i (full (nat_lt 0 (n - 1))) (full (nat_lt 1 (n - 1))) (full (nat_lt 2 (n - 1)))

-- ---- a visit of a walk
pub record AVisit (P : Visit → Type 0) : Type 0 where
  pub visit : Visit
  pub holds : P visit
  pub inside : IsInside visit.region

has_either : (P : Visit → Type 0) (xs ys : List Visit) → HasVisit P (xs ++ ys) → HasVisit P xs ⊎ HasVisit P ys
has_either P [] ys h = inr h
has_either P (x ∷ xs) ys (inl h) = inl (inl h)
has_either P (x ∷ xs) ys (inr h) = elim (has_either P xs ys h) [ inl k ↦ inl (inr k) | inr k ↦ inr k ]

pub visit_inside : (P : Visit → Type 0) (tree : Tree) (r : Region) → IsInside r → HasVisit P (visits tree r) → AVisit P
unfolding visits
visit_inside P (Leaf mark) r inside (inl h) = record { visit = _; holds = h; inside = inside }
visit_inside P (Leaf mark) r inside (inr h) = absurd h
visit_inside P (Node e lower upper) r inside (inl h) = record { visit = _; holds = h; inside = inside }
visit_inside P (Node e lower upper) r inside (inr h) =
    let halves = halves_inside e r inside in
    elim (has_either P (visits lower (lower_half e r)) (visits upper (upper_half e r)) h) [
      | inl k ↦ visit_inside P lower (lower_half e r) halves.0 k
      | inr k ↦ visit_inside P upper (upper_half e r) halves.1 k
    ]
