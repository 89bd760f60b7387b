-- The leaves of a tree cover the points of its cell.
use Rattle.std.proofs.Common.{◌≡◌, ℕ, zero, suc, ◌+◌, ◌-◌, ◌*◌, ◌^◌, ◌<◌, ◌≤◌, ◌⊎◌, List, [], ◌∷◌, ◌++◌, Bool, true, false, ◌==◌, nat_lt, if◌then◌else◌, IsFalse, ℤ, pos, ◌*ℤ◌, ◌≤ℤ◌, slice_index, slice_set, arith, inl, inr, refl}
use Rattle.std.proofs.Math.Nat.{mul-le-mul_right, le_of_mul-le-mul_right}
use Rattle.std.proofs.lemmas.Bool.{cases_lt}
use Rattle.std.proofs.lemmas.Int.{ints}
use borrow.Author.Differences.{up, down}
use Rattle.log_laws.specs.Sums.{sum_below, list_below}
use Rattle.log_laws.proofs.Exports.{sum_below-scaled, sum_below-less, le-sum_below}
use Rattle.case_types.specs.Arithmetic.Bounds.{one}
use Rattle.case_types.specs.Grid.Cells.{Region, root_region, free_sum, misses, packing_edge, cut, lower_half, upper_half, Tree, Leaf, Node, Visit, visits, IsWithin, IsLeafAt, HasVisit, TreesCover}
use Rattle.case_types.specs.Energy.Divisions.{State, IsState, moles}

pub has-left : (P : Visit → Type 0) (us vs : List Visit) → HasVisit P us → HasVisit P (us ++ vs)
has-left P [] vs h = absurd h
has-left P (u ∷ us) vs (inl p) = inl p
has-left P (u ∷ us) vs (inr h) = inr (has-left P us vs h)

pub has-right : (P : Visit → Type 0) (us vs : List Visit) → HasVisit P vs → HasVisit P (us ++ vs)
has-right P [] vs h = h
has-right P (u ∷ us) vs h = inr (has-right P us vs h)

-- what holds of each entry and of a at its place holds after a was put there
set_holds : (P : ℕ → ℕ → Type 0) (l : List ℕ) (i a : ℕ) → ((j : ℕ) → P j (slice_index l j)) → P i a → (j : ℕ) → P j (slice_index (slice_set l i a) j)
set_holds P [] i a h p j = h j
set_holds P (x ∷ xs) zero a h p zero = p
set_holds P (x ∷ xs) zero a h p (suc j) = h (suc j)
set_holds P (x ∷ xs) (suc i) a h p zero = h 0
set_holds P (x ∷ xs) (suc i) a h p (suc j) = set_holds (λ j v. P (suc j) v) xs i a (λ j. h (suc j)) p j

pub total : (a b : ℤ) → (a ≤ℤ b) ⊎ (b ≤ℤ a)
total a b =
    elim (cases_lt (up a + down b) (up b + down a)) [
      | inl l ↦ inl (omega (arith, ints, l))
      | inr g ↦ inr (omega (arith, ints, g))
    ]

in_half_at : (n e c : ℕ) (r : Region) (f : State) (b : Bool) → IsWithin n r f →
    IsWithin n (if b then record r { yhi = c } else record r { hi = slice_set r.hi e c }) f
    ⊎ IsWithin n (if b then record r { ylo = c } else record r { lo = slice_set r.lo e c }) f
in_half_at n e c r f true k =
    elim (total (f.packing.num *ℤ pos one) (pos (c * f.packing.den))) [
      | inl l ↦ inl (record { above = k.above; below = k.below; denser = k.denser; thinner = l })
      | inr g ↦ inr (record { above = k.above; below = k.below; denser = g; thinner = k.thinner })
    ]
in_half_at n e c r f false k =
    elim (cases_lt (f.parts e * 2 ^ 20) (c * moles n f)) [
      | inl l ↦ inl (record {
        above = k.above;
        below = set_holds (λ j v. j < n - 1 → f.parts j * 2 ^ 20 ≤ v * moles n f) r.hi e c k.below (λ _. omega (arith, l));
        denser = k.denser;
        thinner = k.thinner;
      })
      | inr g ↦ inr (record {
        above = set_holds (λ j v. j < n - 1 → v * moles n f ≤ f.parts j * 2 ^ 20) r.lo e c k.above (λ _. g);
        below = k.below;
        denser = k.denser;
        thinner = k.thinner;
      })
    ]

pub in_half : (n e : ℕ) (r : Region) (f : State) → IsWithin n r f → IsWithin n (lower_half e r) f ⊎ IsWithin n (upper_half e r) f
in_half n e r f k = in_half_at n e (cut r e) r f (e == packing_edge) k

-- a cell that holds a point has no lower ends past one
pub meets_at : (n : ℕ) (r : Region) (f : State) → IsState n f → IsWithin n r f → IsFalse (misses n r)
meets_at n r f s k =
    let below : free_sum n r.lo * moles n f ≤ sum_below (n - 1) f.parts * 2 ^ 20 = sum_below-scaled (n - 1) (slice_index r.lo) f.parts (moles n f) (2 ^ 20) k.above in
    let less : sum_below (n - 1) f.parts ≤ moles n f = sum_below-less n f.parts in
    let scaled : free_sum n r.lo * moles n f ≤ 2 ^ 20 * moles n f = omega (arith, below, mul-le-mul_right (2 ^ 20) less) in
    let few : free_sum n r.lo ≤ 2 ^ 20 = le_of_mul-le-mul_right scaled s.some in
    grind (arith, few)

covers : (n : ℕ) (tree : Tree) (r : Region) (f : State) → IsState n f → IsWithin n r f → HasVisit (IsLeafAt n f) (visits tree r)
unfolding visits
covers n (Leaf mark) r f s k = inl (record { mark = mark; ends = refl; holds = k; meets = meets_at n r f s k })
covers n (Node e lower upper) r f s k =
    inr (elim (in_half n e r f k) [
      | inl l ↦ has-left (IsLeafAt n f) (visits lower (lower_half e r)) (visits upper (upper_half e r)) (covers n lower (lower_half e r) f s l)
      | inr g ↦ has-right (IsLeafAt n f) (visits lower (lower_half e r)) (visits upper (upper_half e r)) (covers n upper (upper_half e r) f s g)
    ])

zero_entry : (i : ℕ) → slice_index (0 ∷ 0 ∷ 0 ∷ []) i ≡ 0
zero_entry zero = refl
zero_entry (suc zero) = refl
zero_entry (suc (suc zero)) = refl
zero_entry (suc (suc (suc i))) = refl

full_entry : (n i : ℕ) → n ≤ 4 → i < n - 1 → slice_index (root_region n).hi i ≡ 2 ^ 20
unfolding list_below
full_entry n zero l h = let b : nat_lt 0 (n - 1) ≡ true = grind (arith, h) in rw b refl
full_entry n (suc zero) l h = let b : nat_lt 1 (n - 1) ≡ true = grind (arith, h) in rw b refl
full_entry n (suc (suc zero)) l h = let b : nat_lt 2 (n - 1) ≡ true = grind (arith, h) in rw b refl
full_entry n (suc (suc (suc i))) l h = absurd (omega (arith, l, h))

pub in_root : (n : ℕ) (f : State) → n ≤ 4 → IsState n f → IsWithin n (root_region n) f
in_root n f l s = record {
  above = λ i h. rw (zero_entry i) (omega arith);
  below = λ i h. rw (full_entry n i l h) (omega (arith, le-sum_below n i f.parts (omega (arith, h))));
  denser = omega (arith, ints, s.not_empty);
  thinner = omega (arith, ints, s.not_full);
}

pub trees_cover : TreesCover
trees_cover n tree f l s = covers n tree (root_region n) f s (in_root n f l s)
