-- A half has fewer halvings left.
use Rattle.std.proofs.Common.{◌≡◌, ◌≢◌, ℕ, zero, suc, ◌+◌, ◌-◌, ◌*◌, ◌/◌, ◌^◌, ◌<◌, ◌≤◌, length, true, false, ◌==◌, cond, inl, inr, refl, ◌∙◌, slice_index, slice_set, get_or-set_same, get_or-set_other, arith}
use Rattle.std.specs.Prelude.{nat_lt}
use Rattle.std.proofs.Math.Nat.{pow-suc}
use Rattle.std.proofs.lemmas.Bool.{cases_lt, lt-ltb, le-ltb}
use Rattle.log_laws.specs.Sums.{sum_below, list_below}
use Rattle.case_types.specs.Grid.Cells.{Region, root_region, edge_length, lower_half, upper_half}
use Rattle.density_boxes.specs.Halvings.{halvings_of, halvings_left}

pub root_halvings : (n : ℕ) → 1 ≤ n → n ≤ 4 → halvings_left (root_region n) ≡ 20 * (n - 1) + 40
unfolding halvings_left halvings_of list_below
root_halvings zero h l = absurd (omega (arith, h))
root_halvings (suc zero) h l = refl
root_halvings (suc (suc zero)) h l = refl
root_halvings (suc (suc (suc zero))) h l = refl
root_halvings (suc (suc (suc (suc zero)))) h l = refl
root_halvings (suc (suc (suc (suc (suc n))))) h l = absurd (omega (arith, l))

-- ---- one edge
abbrev is_power_below : ℕ → ℕ → ℕ
is_power_below l k = cond (nat_lt (2 ^ k) l) 1 0

first_apart : (m : ℕ) (f : ℕ → ℕ) → sum_below (suc m) f ≡ f 0 + sum_below m (λ k. f (suc k))
first_apart zero f = omega arith
first_apart (suc m) f = omega (arith, first_apart m f)

at_most_each : (m : ℕ) (p q : ℕ → ℕ) → ((k : ℕ) → p k ≤ q k) → sum_below m p ≤ sum_below m q
at_most_each zero p q h = omega arith
at_most_each (suc m) p q h = omega (arith, at_most_each m p q h, h m)

-- a power below the half, doubled, is below the whole
next_power : (k l h : ℕ) → 2 * h ≤ l + 1 → is_power_below h k ≤ is_power_below l (suc k)
next_power k l h small =
    elim (cases_lt (2 ^ k) h) [
      | inl less ↦ let e : nat_lt (2 ^ k) h ≡ true = lt-ltb (2 ^ k) h less in
          let more : 2 ^ suc k < l = omega (arith, pow-suc 2 k, less, small) in
          let e' : nat_lt (2 ^ suc k) l ≡ true = lt-ltb (2 ^ suc k) l more in
          rw (e, e') (omega arith)
      | inr more ↦ let e : nat_lt (2 ^ k) h ≡ false = le-ltb (2 ^ k) h more in rw e (omega arith)
    ]

-- so the half has at most the powers of the whole, without 1
fewer_powers : (m l h : ℕ) → 2 ≤ l → l ≤ 2 ^ m → 2 * h ≤ l + 1 → sum_below m (is_power_below h) < sum_below m (is_power_below l)
fewer_powers m l h two top small =
    let first : is_power_below l 0 ≡ 1 = rw (lt-ltb 1 l (omega (arith, two))) refl in
    let last : is_power_below l m ≡ 0 = rw (le-ltb (2 ^ m) l top) refl in
    let steps = at_most_each m (is_power_below h) (λ k. is_power_below l (suc k)) (λ k. next_power k l h small) in
    let split : sum_below m (is_power_below l) + is_power_below l m ≡ is_power_below l 0 + sum_below m (λ k. is_power_below l (suc k)) = first_apart m (is_power_below l) in
    omega (arith, first, last, steps, split)

fewer_halvings : (l h : ℕ) → 2 ≤ l → l ≤ 2 ^ 40 → 2 * h ≤ l + 1 → halvings_of h < halvings_of l
unfolding halvings_of
fewer_halvings l h two top small = fewer_powers 40 l h two top small

-- ---- four edges, one of which is shorter
one_less : (e : ℕ) (a b : ℕ → ℕ) → e < 4 → ((j : ℕ) → j ≢ e → a j ≡ b j) → a e < b e → sum_below 4 a < sum_below 4 b
one_less zero a b h same less = omega (arith, same 1 (λ e. cc e), same 2 (λ e. cc e), same 3 (λ e. cc e), less)
one_less (suc zero) a b h same less = omega (arith, same 0 (λ e. cc e), same 2 (λ e. cc e), same 3 (λ e. cc e), less)
one_less (suc (suc zero)) a b h same less = omega (arith, same 0 (λ e. cc e), same 1 (λ e. cc e), same 3 (λ e. cc e), less)
one_less (suc (suc (suc zero))) a b h same less = omega (arith, same 0 (λ e. cc e), same 1 (λ e. cc e), same 2 (λ e. cc e), less)
one_less (suc (suc (suc (suc e)))) a b h same less = absurd (omega (arith, h))

fewer_left : (r s : Region) (e : ℕ) → e < 4 → ((j : ℕ) → j ≢ e → edge_length s j ≡ edge_length r j) → 2 ≤ edge_length r e →
    edge_length r e ≤ 2 ^ 40 → 2 * edge_length s e ≤ edge_length r e + 1 → halvings_left s < halvings_left r
unfolding halvings_left
fewer_left r s e h same two top small =
    one_less e (λ j. halvings_of (edge_length s j)) (λ j. halvings_of (edge_length r j)) h (λ j n. rw (same j n) refl)
    (fewer_halvings (edge_length r e) (edge_length s e) two top small)

not_packing : (e : ℕ) → e < 3 → (e == 3) ≡ false
not_packing zero h = refl
not_packing (suc zero) h = refl
not_packing (suc (suc zero)) h = refl
not_packing (suc (suc (suc e))) h = absurd (omega (arith, h))

-- ---- the halves along the packing
others_stay : (r s : Region) → s.lo ≡ r.lo → s.hi ≡ r.hi → (j : ℕ) → j ≢ 3 → edge_length s j ≡ edge_length r j
others_stay r s a b j h = let e : (j == 3) ≡ false = grind (arith, h) in rw (e, a, b) refl

pub fewer_in_lower_packing : (r : Region) → 2 ≤ edge_length r 3 → r.yhi ≤ 2 ^ 40 → halvings_left (lower_half 3 r) < halvings_left r
fewer_in_lower_packing r two top =
    fewer_left r (lower_half 3 r) 3 (omega arith) (others_stay r (lower_half 3 r) refl refl) two (omega arith) (omega arith)

pub fewer_in_upper_packing : (r : Region) → 2 ≤ edge_length r 3 → r.yhi ≤ 2 ^ 40 → halvings_left (upper_half 3 r) < halvings_left r
fewer_in_upper_packing r two top =
    fewer_left r (upper_half 3 r) 3 (omega arith) (others_stay r (upper_half 3 r) refl refl) two (omega arith) (omega arith)

-- ---- the halves along a fraction
fraction_length : (r : Region) (e : ℕ) → e < 3 → edge_length r e ≡ slice_index r.hi e - slice_index r.lo e
fraction_length r e h = rw (not_packing e h) refl

pub fewer_below_cut : (r : Region) (e : ℕ) → e < 3 → e < length r.hi → 2 ≤ edge_length r e → slice_index r.hi e ≤ 2 ^ 40 →
    halvings_left (record r { hi = slice_set r.hi e ((slice_index r.lo e + slice_index r.hi e) / 2) }) < halvings_left r
fewer_below_cut r e h inside two top =
    let c = (slice_index r.lo e + slice_index r.hi e) / 2 in
    let s : Region = record r { hi = slice_set r.hi e c } in
    let wide = fraction_length r e h in
    let half : edge_length s e ≡ c - slice_index r.lo e = fraction_length s e h ∙ (rw (get_or-set_same r.hi e c 0 inside) refl) in
    fewer_left r s e (omega (arith, h)) (λ j n. rw (get_or-set_other r.hi e j c 0 n) refl) two (omega (arith, wide, top)) (omega (arith, wide, half, two))

pub fewer_above_cut : (r : Region) (e : ℕ) → e < 3 → e < length r.lo → 2 ≤ edge_length r e → slice_index r.hi e ≤ 2 ^ 40 →
    halvings_left (record r { lo = slice_set r.lo e ((slice_index r.lo e + slice_index r.hi e) / 2) }) < halvings_left r
fewer_above_cut r e h inside two top =
    let c = (slice_index r.lo e + slice_index r.hi e) / 2 in
    let s : Region = record r { lo = slice_set r.lo e c } in
    let wide = fraction_length r e h in
    let half : edge_length s e ≡ slice_index r.hi e - c = fraction_length s e h ∙ (rw (get_or-set_same r.lo e c 0 inside) refl) in
    fewer_left r s e (omega (arith, h)) (λ j n. rw (get_or-set_other r.lo e j c 0 n) refl) two (omega (arith, wide, top)) (omega (arith, wide, half, two))
