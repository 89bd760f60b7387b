-- The terms of the upper energy as the code computes them.
use Rattle.std.proofs.Common.{◌≡◌, ◌≢◌, ℕ, ◌+◌, ◌-◌, ◌*◌, ◌<◌, ◌^◌, ◌≤◌, ℤ, pos, neg_ℤ, ◌+ℤ◌, ◌-ℤ◌, ◌*ℤ◌, unsigned_abs, slice_index, refl, sym, arith, lit<}
use Rattle.std.proofs.lemmas.Int.{ints}
use lib.Count.{count_leading_zeros}
use Rattle.log_laws.specs.Squaring.{log_up, log_down, up, down}
use Rattle.log_laws.specs.Sums.{int_sum_below}
use Rattle.log_laws.specs.Whole.{ceil_div, ceil_quotient}
use Rattle.log_laws.proofs.Exports.{ceil_over-pos, floor_over-le, lt-floor_over}
use Rattle.case_types.specs.Arithmetic.Bounds.{Box, one, mixing_up, covolume_scale, covolume_range, ratio_low, volume_up, attraction_term_low, energy_up}
use Rattle.case_types.specs.Arithmetic.Numbers.{Numbers}
use Rattle.pr_params.proofs.Exports.{not_none}

-- no fraction adds nothing
pub mixing_none : (a b : ℕ) → b ≡ 0 → mixing_up a b ≡ pos 0
unfolding mixing_up
mixing_none a b e = rw e refl

-- nor does a fraction of at most 1
log_of_whole : log_up one 40 ≡ pos 0
unfolding log_up up count_leading_zeros
log_of_whole = refl

pub mixing_whole : (a b : ℕ) → b ≡ one → mixing_up a b ≡ pos 0
unfolding mixing_up
mixing_whole a b e =
    let m : pos a *ℤ pos 0 ≡ pos 0 = omega (arith, ints) in
    rw (e, log_of_whole, m) refl

-- the mixing term of a fraction above 0
pub mixing_some : (a b : ℕ) → b ≢ 0 → mixing_up a b ≡ ceil_div (pos a *ℤ log_up b 40) (pos (2 ^ 40))
unfolding mixing_up
mixing_some a b h = rw (not_none b h) refl

-- a ceiling in 2^-40 is as small as the number
pub ceiling_small : (z : ℤ) (m : ℕ) → unsigned_abs z ≤ m * 2 ^ 40 → unsigned_abs (ceil_div z (pos (2 ^ 40))) ≤ m
ceiling_small z m h =
    let f = floor_over-le (neg_ℤ z) (2 ^ 40) (lit< tt) in
    let g = lt-floor_over (neg_ℤ z) (2 ^ 40) (lit< tt) in
    omega (arith, ints, h, f, g)

-- a quotient of a product over a product
pub quotient_is : (e : ℤ) (n b y s r : ℕ) → pos n ≡ e → 0 < y * s → r ≡ ceil_quotient (n * b) (y * s) → pos r ≡ ceil_div (e *ℤ pos b) (pos y *ℤ pos s)
quotient_is e n b y s r h some is = rw (← h, is) (sym (ceil_over-pos (n * b) (y * s) some))

-- ---- at the packing of a half
pub log_up_of_half : log_up (2 ^ 39) 40 ≡ neg_ℤ (pos (2 ^ 40))
unfolding log_up up count_leading_zeros
log_up_of_half = refl

pub log_down_of_half : log_down (2 ^ 39) 40 ≡ neg_ℤ (pos (2 ^ 40))
unfolding log_down down count_leading_zeros
log_down_of_half = refl

-- ---- the energy
-- the volume term from its parts
pub volume_up_is : (p : Numbers) (b : ℤ) (y : ℕ) (l q : ℤ) → l ≡ log_up y 40 → q ≡ ceil_div (p.log_e.hi *ℤ b) (pos y *ℤ pos (covolume_scale p)) → l +ℤ q ≡ volume_up p b y
unfolding volume_up
volume_up_is p b y l q e f = rw (e, f) refl

-- the upper energy from its terms
pub energy_up_is : (p : Numbers) (x : Box) (y : ℕ) (m v l k q : ℤ) →
    m ≡ int_sum_below p.count (λ i. mixing_up (slice_index x.lo i) (slice_index x.hi i)) → v ≡ volume_up p (covolume_range p x).hi y →
    l ≡ log_down (unsigned_abs (covolume_range p x).lo) (56 + p.lift) → k ≡ log_down (one - y) 40 → q ≡ attraction_term_low p (ratio_low p x) y →
    m +ℤ v -ℤ l -ℤ k -ℤ q ≡ energy_up p x y
unfolding energy_up
energy_up_is p x y m v l k q em ev el ek eq = rw (em, ev, el, ek, eq) refl
