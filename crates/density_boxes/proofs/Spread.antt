-- Fractions spread over the components, and the box of a cell.
use Rattle.std.proofs.Common.{◌≡◌, ℕ, zero, suc, ◌+◌, ◌-◌, ◌*◌, ◌^◌, ◌≤◌, List, [], ◌∷◌, Bool, true, false, ◌==◌, cond, IsTrue, IsFalse, refl, slice_index, arith}
use Rattle.std.specs.Prelude.{nat_lt}
use Rattle.std.proofs.lemmas.Bool.{ltb-false, le-ltb}
use Rattle.case_types.specs.Arithmetic.Bounds.{Box, one}
use Rattle.case_types.specs.Grid.Cells.{Region, misses, free_sum, box_of_region, middle_of, middle_sum}
use Rattle.case_types.specs.Ranges.{is_each_at_most, is_each_up_to}
use Rattle.log_laws.specs.Sums.{sum_below, list_below}
use Rattle.density_boxes.proofs.Lists.{at_most_at, up_to_at, four_at_most, four_up_to}

-- f for the free components, the rest for the last of n, and 0 for those that aren't there
abbrev pub spread : ℕ → (ℕ → ℕ) → ℕ → List ℕ
spread n f rest = list_below 4 (λ i. cond (nat_lt i (n - 1)) (f i) (cond (i == n - 1) rest 0))

-- those that are there add up to the sum of the free ones and the rest
pub sum-spread : (n : ℕ) (f : ℕ → ℕ) (rest : ℕ) → 1 ≤ n → n ≤ 4 → sum_below n (slice_index (spread n f rest)) ≡ sum_below (n - 1) f + rest
unfolding list_below
sum-spread zero f rest h l = absurd (omega (arith, h))
sum-spread (suc zero) f rest h l = omega arith
sum-spread (suc (suc zero)) f rest h l = omega arith
sum-spread (suc (suc (suc zero))) f rest h l = omega arith
sum-spread (suc (suc (suc (suc zero)))) f rest h l = omega arith
sum-spread (suc (suc (suc (suc (suc n))))) f rest h l = absurd (omega (arith, l))

-- there is nothing of one that isn't there
not_there : (n i x y : ℕ) → 1 ≤ n → n ≤ i → cond (nat_lt i (n - 1)) x (cond (i == n - 1) y 0) ≡ 0
not_there n i x y h l =
    let free : nat_lt i (n - 1) ≡ false = le-ltb i (n - 1) (omega (arith, l)) in
    let last : (i == n - 1) ≡ false = grind (arith, h, l) in
    rw (free, last) refl

pub spread-past : (n : ℕ) (f : ℕ → ℕ) (rest i : ℕ) → 1 ≤ n → n ≤ i → slice_index (spread n f rest) i ≡ 0
unfolding list_below
spread-past n f rest zero h l = not_there n 0 (f 0) rest h l
spread-past n f rest (suc zero) h l = not_there n 1 (f 1) rest h l
spread-past n f rest (suc (suc zero)) h l = not_there n 2 (f 2) rest h l
spread-past n f rest (suc (suc (suc zero))) h l = not_there n 3 (f 3) rest h l
spread-past n f rest (suc (suc (suc (suc i)))) h l = refl

-- ---- in the units of the packing
scaled_choice : (b b' : Bool) (x sum : ℕ) → cond b x (cond b' (2 ^ 20 - sum) 0) * 2 ^ 20 ≡ cond b (x * 2 ^ 20) (cond b' (one - sum * 2 ^ 20) 0)
scaled_choice true b' x sum = refl
scaled_choice false true x sum = omega arith
scaled_choice false false x sum = refl

pub scaled-spread : (n : ℕ) (ends : List ℕ) (sum : ℕ) →
    list_below 4 (λ i. slice_index (spread n (slice_index ends) (2 ^ 20 - sum)) i * 2 ^ 20)
    ≡ spread n (λ i. slice_index ends i * 2 ^ 20) (one - sum * 2 ^ 20)
unfolding list_below
scaled-spread n ends sum =
    let at : (i : ℕ) → cond (nat_lt i (n - 1)) (slice_index ends i) (cond (i == n - 1) (2 ^ 20 - sum) 0) * 2 ^ 20
    ≡ cond (nat_lt i (n - 1)) (slice_index ends i * 2 ^ 20) (cond (i == n - 1) (one - sum * 2 ^ 20) 0) =
    λ i. scaled_choice (nat_lt i (n - 1)) (i == n - 1) (slice_index ends i) sum in
    rw (at 0, at 1, at 2, at 3) refl

-- ---- the middles
abbrev pub middles : Region → List ℕ
middles r = middle_of r 0 ∷ middle_of r 1 ∷ middle_of r 2 ∷ []

pub middles_listed : (r : Region) → list_below 3 (middle_of r) ≡ middles r
unfolding list_below
middles_listed r = refl

pub sum-middles : (n : ℕ) (r : Region) → n ≤ 4 → free_sum n (middles r) ≡ middle_sum n r
sum-middles zero r l = refl
sum-middles (suc zero) r l = refl
sum-middles (suc (suc zero)) r l = refl
sum-middles (suc (suc (suc zero))) r l = refl
sum-middles (suc (suc (suc (suc zero)))) r l = refl
sum-middles (suc (suc (suc (suc (suc n))))) r l = absurd (omega (arith, l))

pub spread-middles : (n : ℕ) (r : Region) (rest : ℕ) → n ≤ 4 → spread n (slice_index (middles r)) rest ≡ spread n (middle_of r) rest
unfolding list_below
spread-middles zero r rest l = refl
spread-middles (suc zero) r rest l = refl
spread-middles (suc (suc zero)) r rest l = refl
spread-middles (suc (suc (suc zero))) r rest l = refl
spread-middles (suc (suc (suc (suc zero)))) r rest l = refl
spread-middles (suc (suc (suc (suc (suc n))))) r rest l = absurd (omega (arith, l))

-- ---- the box
-- what a box of compositions keeps
pub record IsBox (x : Box) : Type 0 where
  pub ordered : IsTrue (is_each_at_most 4 x.lo x.hi)
  pub inside : IsTrue (is_each_up_to 4 x.hi one)
  pub not_above : sum_below 4 (slice_index x.lo) ≤ one
  pub not_below : one ≤ sum_below 4 (slice_index x.hi)

-- the lower ends add up to at most 1 where the last is clipped, since the cell doesn't miss, and where it isn't
by_count : (n : ℕ) (r : Region) → 1 ≤ n → n ≤ 4 → slice_index r.lo 0 ≤ slice_index r.hi 0 → slice_index r.lo 1 ≤ slice_index r.hi 1 →
    slice_index r.lo 2 ≤ slice_index r.hi 2 → slice_index r.hi 0 ≤ 2 ^ 20 → slice_index r.hi 1 ≤ 2 ^ 20 → slice_index r.hi 2 ≤ 2 ^ 20 →
    free_sum n r.lo ≤ 2 ^ 20 → IsBox (box_of_region n r)
unfolding list_below
by_count zero r h l a b c d e f m = absurd (omega (arith, h))
by_count (suc zero) r h l a b c d e f m = record {
  ordered = four_at_most (box_of_region 1 r).lo (box_of_region 1 r).hi (omega arith) (omega arith) (omega arith) (omega arith);
  inside = four_up_to (box_of_region 1 r).hi one (omega arith) (omega arith) (omega arith) (omega arith);
  not_above = omega arith;
  not_below = omega arith;
}
by_count (suc (suc zero)) r h l a b c d e f m = record {
  ordered = four_at_most (box_of_region 2 r).lo (box_of_region 2 r).hi (omega arith) (omega arith) (omega arith) (omega arith);
  inside = four_up_to (box_of_region 2 r).hi one (omega arith) (omega arith) (omega arith) (omega arith);
  not_above = omega arith;
  not_below = omega arith;
}
by_count (suc (suc (suc zero))) r h l a b c d e f m = record {
  ordered = four_at_most (box_of_region 3 r).lo (box_of_region 3 r).hi (omega arith) (omega arith) (omega arith) (omega arith);
  inside = four_up_to (box_of_region 3 r).hi one (omega arith) (omega arith) (omega arith) (omega arith);
  not_above = omega arith;
  not_below = omega arith;
}
by_count (suc (suc (suc (suc zero)))) r h l a b c d e f m = record {
  ordered = four_at_most (box_of_region 4 r).lo (box_of_region 4 r).hi (omega arith) (omega arith) (omega arith) (omega arith);
  inside = four_up_to (box_of_region 4 r).hi one (omega arith) (omega arith) (omega arith) (omega arith);
  not_above = omega arith;
  not_below = omega arith;
}
by_count (suc (suc (suc (suc (suc n))))) r h l a b c d e f m = absurd (omega (arith, l))

pub is_box : (n : ℕ) (r : Region) → 1 ≤ n → n ≤ 4 → IsTrue (is_each_at_most 3 r.lo r.hi) → IsTrue (is_each_up_to 3 r.hi (2 ^ 20)) →
    IsFalse (misses n r) → IsBox (box_of_region n r)
is_box n r h l ordered inside meets =
    by_count n r h l (at_most_at 3 r.lo r.hi 0 (omega arith) ordered) (at_most_at 3 r.lo r.hi 1 (omega arith) ordered)
    (at_most_at 3 r.lo r.hi 2 (omega arith) ordered) (up_to_at 3 r.hi (2 ^ 20) 0 (omega arith) inside)
    (up_to_at 3 r.hi (2 ^ 20) 1 (omega arith) inside) (up_to_at 3 r.hi (2 ^ 20) 2 (omega arith) inside)
    (ltb-false (2 ^ 20) (free_sum n r.lo) meets)

pub is_box_by_ends : (a b : List ℕ) (x : Box) → a ≡ x.lo → b ≡ x.hi → IsBox x → IsBox (record { lo = a; hi = b })
is_box_by_ends a b x low high h = rw (low, high) h
