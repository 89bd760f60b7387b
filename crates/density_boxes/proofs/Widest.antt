-- The edge that is named.
use Rattle.std.proofs.Common.{◌≡◌, ℕ, zero, suc, ◌-◌, ◌*◌, ◌^◌, ◌<◌, ◌≤◌, Bool, true, false, ◌&&◌, inl, inr, refl, arith}
use Rattle.std.specs.Prelude.{nat_le}
use Rattle.std.proofs.lemmas.Bool.{cases_lt, lt-ltb, le-ltb, leb-false}
use Rattle.case_types.specs.Grid.Cells.{Region, edge_length, widest_below}
use Rattle.log_laws.specs.Sums.{all_below}

pub widest_none : (r : Region) → 0 ≡ widest_below r 0
unfolding widest_below
widest_none r = refl

pub widest_next : (r : Region) (i : ℕ) → edge_length r (widest_below r i) < edge_length r i → i ≡ widest_below r (suc i)
unfolding widest_below
widest_next r i more = rw (lt-ltb (edge_length r (widest_below r i)) (edge_length r i) more) refl

pub widest_stays : (r : Region) (i : ℕ) → edge_length r i ≤ edge_length r (widest_below r i) → widest_below r i ≡ widest_below r (suc i)
unfolding widest_below
widest_stays r i less = rw (le-ltb (edge_length r (widest_below r i)) (edge_length r i) less) refl

-- it is one of them, and none is wider
pub widest_within : (r : Region) (m : ℕ) → widest_below r m ≤ m - 1
widest_within r zero = rw (← widest_none r) (omega arith)
widest_within r (suc i) =
    elim (cases_lt (edge_length r (widest_below r i)) (edge_length r i)) [
      | inl more ↦ rw (← widest_next r i more) (omega arith)
      | inr less ↦ rw (← widest_stays r i less) (omega (arith, widest_within r i))
    ]

pub widest_is_widest : (r : Region) (m i : ℕ) → i < m → edge_length r i ≤ edge_length r (widest_below r m)
widest_is_widest r zero i h = absurd (omega (arith, h))
widest_is_widest r (suc m) i h =
    elim (cases_lt (edge_length r (widest_below r m)) (edge_length r m)) [
      | inl more ↦ rw (← widest_next r m more) (elim (cases_lt i m) [
        | inl before ↦ omega (arith, widest_is_widest r m i before, more)
        | inr last ↦ let e : i ≡ m = omega (arith, h, last) in rw e (omega arith)
      ])
      | inr less ↦ rw (← widest_stays r m less) (elim (cases_lt i m) [
        | inl before ↦ widest_is_widest r m i before
        | inr last ↦ let e : i ≡ m = omega (arith, h, last) in rw e less
      ])
    ]

-- where not all pass, one doesn't
pub some_fails : (m : ℕ) (p : ℕ → Bool) → all_below m p ≡ false → (i : ℕ) × (i < m) × (p i ≡ false)
some_fails zero p h = absurd (cc h)
some_fails (suc m) p h =
    elim (p m) as (λ b. p m ≡ b → (i : ℕ) × (i < suc m) × (p i ≡ false)) [
      | true ↦ λ e. let f = some_fails m p (first_of (all_below m p) (p m) h e) in (f.0, omega (arith, f.1), f.2)
      | false ↦ λ e. (m, omega arith, e)
    ] refl
  where
    first_of : (a b : Bool) → (a && b) ≡ false → b ≡ true → a ≡ false
    first_of true b h e = absurd (let t : b ≡ false = h in cc (t, e))
    first_of false b h e = refl

-- where the packing isn't named, the widest is a free fraction, of length at least 1
pub wide_fraction : (r : Region) (m : ℕ) → 1 ≤ edge_length r 3 → all_below m (λ i. nat_le (edge_length r i * 2 ^ 20) (4 * edge_length r 3)) ≡ false →
    (widest_below r m < m) × (1 ≤ edge_length r (widest_below r m))
wide_fraction r m thick h =
    let f = some_fails m (λ i. nat_le (edge_length r i * 2 ^ 20) (4 * edge_length r 3)) h in
    let wide : 4 * edge_length r 3 < edge_length r f.0 * 2 ^ 20 = leb-false (edge_length r f.0 * 2 ^ 20) (4 * edge_length r 3) f.2 in
    (omega (arith, widest_within r m, f.1), omega (arith, wide, thick, widest_is_widest r m f.0 f.1))
