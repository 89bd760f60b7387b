-- The ends of the logarithm of the attraction term: at most at a packing above, at least at a packing below.
use Rattle.std.proofs.Common.{ℕ, ◌+◌, ◌-◌, ◌*◌, ◌/◌, ◌^◌, ◌≤◌, ◌<◌, ◌≡◌, refl, ap, subst, arith, lit<, lit≤, ℤ, pos, neg_ℤ, ◌-ℤ◌, unsigned_abs}
use Rattle.std.proofs.Math.Nat.{mul-le-mul_right, le_of_mul-le-mul_right}
use Rattle.std.proofs.lemmas.Int.{ints}
use lib.Count.{count_leading_zeros}
use borrow.Author.Differences.{up, down, sum_is_lem}
use Rattle.log_laws.specs.Between.{Ends, IsBetween}
use Rattle.log_laws.specs.Fraction.{Fraction, IsAtMost, negated, difference}
use Rattle.log_laws.specs.LogSum.{LogSum, AtLeast, AtMost, ratio, IsPositive, times_log}
use Rattle.log_laws.specs.Squaring.{down as digits_down, up as digits_up, log_down, log_up}
use Rattle.log_laws.specs.Whole.{ceil_quotient}
use Rattle.log_laws.proofs.Exports.{at_most_is_opposite, IsParts, parts_self, parts_sum_at, product_pos, ceil_over-pos, fraction_one, over_den, lowered, quotient_at_least, minus_log_quotient, at_least-same, same_argument_of, quotient_of_parts, order_of_ratios}
use Rattle.log_enclose.proofs.Exports.{log_down_at_least, log_up_at_most}
use Rattle.case_types.specs.Arithmetic.Bounds.{lambda_up, lambda_down, stretched_up, stretched_down}
use Rattle.case_types.specs.Energy.Divisions.{bits, log_of, minus_log_of, attraction_argument}
use Rattle.case_types.specs.declared.cases.Case.{Case}
use Rattle.case_types.specs.Energy.Instances.{Instance, IsInstance}
use Rattle.case_types.specs.Arithmetic.Numbers.{Numbers, numbers_of, enclosures_of}
use Rattle.pr_params.proofs.Accepted.{two_exact}
use Rattle.pr_params.specs.Packings.{IsPacking}
use Rattle.log_laws.proofs.Exports.{le-ceiling}
use Rattle.pr_params.proofs.Argument.{IsRoot, IsShare, room, by_quotients, argument_parts}

-- the ends of the root of 2
abbrev pub two_ends : Ends
two_ends = record { lo = pos 1630477228166597776; hi = pos 1630477228166597777 }

-- ---- whole numbers
-- of two quotients (p + v) / (p - v) the one with the larger share v is the larger
quotient_order : (P u a p v R : ℕ) → a + u ≡ P → R + v ≡ p → v * P ≤ u * p → a * (p + v) ≤ R * (P + u)
quotient_order P u a p v R ea er l =
    let l' : v * (a + u) ≤ u * (R + v) = rw (ea, er) l in
    let k : v * a ≤ u * R = omega arith in
    rw (← ea, ← er) (omega arith)

-- s * y * (1 + Y) is at most u * (1 + y)
share_below : (sn sd yn yd sh Y u : ℕ) → sn * 2 ^ 60 ≤ sh * sd → yn * 2 ^ 40 ≤ Y * yd → sh * Y ≤ u * 2 ^ 60 →
    sn * yn * (2 ^ 40 + Y) ≤ u * (yd * sd + yn * sd)
share_below sn sd yn yd sh Y u hs hy hu =
    let s1 : sn * 2 ^ 60 * (yn * (2 ^ 40 + Y)) ≤ sh * sd * (yn * (2 ^ 40 + Y)) = mul-le-mul_right (yn * (2 ^ 40 + Y)) hs in
    let y1 : yn * 2 ^ 40 * (sh * sd) ≤ Y * yd * (sh * sd) = mul-le-mul_right (sh * sd) hy in
    let u1 : sh * Y * (yd * sd) ≤ u * 2 ^ 60 * (yd * sd) = mul-le-mul_right (yd * sd) hu in
    let u2 : sh * Y * (yn * sd) ≤ u * 2 ^ 60 * (yn * sd) = mul-le-mul_right (yn * sd) hu in
    let k : (sn * yn * (2 ^ 40 + Y)) * 2 ^ 60 ≤ (u * (yd * sd + yn * sd)) * 2 ^ 60 = omega arith in
    le_of_mul-le-mul_right k (lit< tt)

-- u * (1 + y) is at most s * y * (1 + Y)
share_above : (sn sd yn yd sl Y u : ℕ) → sl * sd ≤ sn * 2 ^ 60 → Y * yd ≤ yn * 2 ^ 40 → u * 2 ^ 60 ≤ sl * Y →
    u * (yd * sd + yn * sd) ≤ sn * yn * (2 ^ 40 + Y)
share_above sn sd yn yd sl Y u hs hy hu =
    let s1 : sl * sd * (yn * (2 ^ 40 + Y)) ≤ sn * 2 ^ 60 * (yn * (2 ^ 40 + Y)) = mul-le-mul_right (yn * (2 ^ 40 + Y)) hs in
    let y1 : Y * yd * (sl * sd) ≤ yn * 2 ^ 40 * (sl * sd) = mul-le-mul_right (sl * sd) hy in
    let u1 : u * 2 ^ 60 * (yd * sd) ≤ sl * Y * (yd * sd) = mul-le-mul_right (yd * sd) hu in
    let u2 : u * 2 ^ 60 * (yn * sd) ≤ sl * Y * (yn * sd) = mul-le-mul_right (yn * sd) hu in
    let k : (u * (yd * sd + yn * sd)) * 2 ^ 60 ≤ (sn * yn * (2 ^ 40 + Y)) * 2 ^ 60 = omega arith in
    le_of_mul-le-mul_right k (lit< tt)

-- a root of 2 of at most 3/2 leaves something of 1 + Y
root_room : (e Y u : ℕ) → 2 * e ≤ 3 * 2 ^ 60 → Y ≤ 2 ^ 40 → u * 2 ^ 60 < e * Y + 2 ^ 60 → (0 < 2 ^ 40 + Y - u) × (2 ^ 40 + Y - u + u ≡ 2 ^ 40 + Y) × (u ≤ 2 ^ 41)
root_room e Y u h l k =
    let a : 2 * e * Y ≤ 3 * 2 ^ 60 * Y = mul-le-mul_right Y h in
    (omega arith, omega arith, omega arith)

-- ---- the ends
pub stretched_up_is : (p : Numbers) (y : ℕ) → p.root_two ≡ two_ends → stretched_up p y ≡ ceil_quotient (1630477228166597777 * y) (2 ^ 60)
stretched_up_is p y e = rw e (ap unsigned_abs (ceil_over-pos (1630477228166597777 * y) (2 ^ 60) (lit< tt)))

pub stretched_down_is : (p : Numbers) (y : ℕ) → p.root_two ≡ two_ends → stretched_down p y ≡ 1630477228166597776 * y / 2 ^ 60
stretched_down_is p y e = rw e refl

-- a difference of bounds over one denominator
pub at_difference : (s : LogSum) (q r : ℤ) (d : ℕ) → 0 < d → AtLeast s (difference (over_den q d) (over_den r d)) → AtLeast s (over_den (q -ℤ r) d)
at_difference s q r d h x =
    lowered s (difference (over_den q d) (over_den r d)) (over_den (q -ℤ r) d)
    (parts_sum_at (parts_self q d h) (parts_self (neg_ℤ r) d h)) (parts_self (q -ℤ r) d h)
    (scaled_by d (up (q -ℤ r)) (down (q -ℤ r)) (up q) (down q) (up (neg_ℤ r)) (down (neg_ℤ r)) (sum_is_lem q (neg_ℤ r))) x
  where
    scaled_by : (d x y u v u' v' : ℕ) → x + v + v' ≡ y + u + u' → x * d + (v + v') * d ≤ (u + u') * d + y * d
    scaled_by d x y u v u' v' e = let e' : (x + v + v') * d ≡ (y + u + u') * d = ap (λ (n : ℕ). n * d) e in omega arith

-- the argument under its own spelling
pub respelled : (f : Fraction) (a : Fraction) (u d : ℕ) (r : Fraction) → 0 < f.den → IsParts a u 0 d → 0 < u → AtLeast (times_log f (ratio u d)) r → AtLeast (times_log f a) r
respelled f a u d r h p pu x =
    at_least-same (times_log f (ratio u d)) (times_log f a) r
    (record { fraction = lit< tt; rest = refl; terms = (same_argument_of f h p pu, tt) }) x

module _ (sn sd yn yd Rd : ℕ) (root : IsRoot sn sd 1630477228166597776 1630477228166597777) (packing : IsShare yn yd) (pRd : 0 < Rd) (Rd_is : Rd + sn * yn ≡ yd * sd + yn * sd) where
  yd_pos : 0 < yd
  yd_pos = omega (arith, packing.below)

  above_pos : 0 < yd * sd + yn * sd + sn * yn
  above_pos = let h = product_pos yd sd yd_pos root.den_pos in omega arith

  parts : IsParts (attraction_argument (ratio sn sd) (ratio yn yd)) (yd * sd + yn * sd + sn * yn) 0 Rd
  parts = argument_parts sn sd yn yd Rd root.den_pos yd_pos pRd Rd_is

  pub minus_log_at : (Y u : ℕ) → Y ≤ 2 ^ 40 → yn * 2 ^ 40 ≤ Y * yd → 1630477228166597777 * Y ≤ u * 2 ^ 60 → u * 2 ^ 60 < 1630477228166597777 * Y + 2 ^ 60 →
      AtLeast (minus_log_of (attraction_argument (ratio sn sd) (ratio yn yd))) (bits (log_down (2 ^ 40 + Y - u) 40 -ℤ log_up (2 ^ 40 + Y + u) 40))
  minus_log_at Y u within to low high =
      let r = root_room 1630477228166597777 Y u root.narrow within high in
      let o : 0 < 2 ^ 40 = lit< tt in
      let s = share_below sn sd yn yd 1630477228166597777 Y u root.to to low in
      let q = quotient_order (2 ^ 40 + Y) u (2 ^ 40 + Y - u) (yd * sd + yn * sd) (sn * yn) Rd r.1 Rd_is s in
      let R = yd * sd + yn * sd + sn * yn in
      respelled (negated fraction_one) (attraction_argument (ratio sn sd) (ratio yn yd)) R Rd (bits (log_down (2 ^ 40 + Y - u) 40 -ℤ log_up (2 ^ 40 + Y + u) 40)) (lit< tt) parts above_pos
      (at_difference (times_log (negated fraction_one) (ratio R Rd)) (log_down (2 ^ 40 + Y - u) 40) (log_up (2 ^ 40 + Y + u) 40) (2 ^ 40) o
      (minus_log_quotient (2 ^ 40 + Y - u) (2 ^ 40) (2 ^ 40 + Y + u) (2 ^ 40) R Rd (bits (log_down (2 ^ 40 + Y - u) 40)) (bits (log_up (2 ^ 40 + Y + u) 40))
      r.0 o (omega arith) o above_pos pRd (times_forty (2 ^ 40 + Y - u) R Rd (2 ^ 40 + Y + u) q)
      (log_down_at_least (2 ^ 40 + Y - u) 40 r.0 (omega arith))
      (log_up_at_most (2 ^ 40 + Y + u) 40 (omega arith) (let k = r.2 in omega arith))))
    where
      times_forty : (a R Rd b : ℕ) → a * R ≤ Rd * b → a * 2 ^ 40 * R ≤ Rd * (2 ^ 40 * b)
      times_forty a R Rd b l = let l' : a * R * 2 ^ 40 ≤ Rd * b * 2 ^ 40 = mul-le-mul_right (2 ^ 40) l in omega arith

  pub log_at : (Y u : ℕ) → Y ≤ 2 ^ 40 → Y * yd ≤ yn * 2 ^ 40 → u * 2 ^ 60 ≤ 1630477228166597776 * Y →
      AtLeast (log_of (attraction_argument (ratio sn sd) (ratio yn yd))) (bits (log_down (2 ^ 40 + Y + u) 40 -ℤ log_up (2 ^ 40 + Y - u) 40))
  log_at Y u within from low =
      let r = root_room 1630477228166597776 Y u (omega arith) within (omega arith) in
      let o : 0 < 2 ^ 40 = lit< tt in
      let s = share_above sn sd yn yd 1630477228166597776 Y u root.from from low in
      let R = yd * sd + yn * sd + sn * yn in
      let q = quotient_order (yd * sd + yn * sd) (sn * yn) Rd (2 ^ 40 + Y) u (2 ^ 40 + Y - u) Rd_is r.1 s in
      respelled fraction_one (attraction_argument (ratio sn sd) (ratio yn yd)) R Rd (bits (log_down (2 ^ 40 + Y + u) 40 -ℤ log_up (2 ^ 40 + Y - u) 40)) (lit< tt) parts above_pos
      (at_difference (times_log fraction_one (ratio R Rd)) (log_down (2 ^ 40 + Y + u) 40) (log_up (2 ^ 40 + Y - u) 40) (2 ^ 40) o
      (quotient_at_least (2 ^ 40 + Y + u) (2 ^ 40) (2 ^ 40 + Y - u) (2 ^ 40) R Rd (bits (log_down (2 ^ 40 + Y + u) 40)) (bits (log_up (2 ^ 40 + Y - u) 40))
      (omega arith) o r.0 o above_pos pRd (times_forty Rd (2 ^ 40 + Y + u) (2 ^ 40 + Y - u) R q)
      (log_down_at_least (2 ^ 40 + Y + u) 40 (omega arith) (let k = r.2 in omega arith))
      (log_up_at_most (2 ^ 40 + Y - u) 40 r.0 (omega arith))))
    where
      times_forty : (Rd b a R : ℕ) → Rd * b ≤ a * R → b * 2 ^ 40 * Rd ≤ R * (2 ^ 40 * a)
      times_forty Rd b a R l = let l' : Rd * b * 2 ^ 40 ≤ a * R * 2 ^ 40 = mul-le-mul_right (2 ^ 40) l in omega arith

-- ---- the logarithm at every root of 2 and packing
-- an order of a whole number and a packing, either way round
from_order : (Y yn yd : ℕ) → 0 < yd → IsAtMost (ratio Y (2 ^ 40)) (ratio yn yd) → Y * yd ≤ yn * 2 ^ 40
from_order Y yn yd h l = let q = order_of_ratios Y (2 ^ 40) yn yd (lit< tt) h l in omega arith

to_order : (Y yn yd : ℕ) → 0 < yd → IsAtMost (ratio yn yd) (ratio Y (2 ^ 40)) → yn * 2 ^ 40 ≤ Y * yd
to_order Y yn yd h l = order_of_ratios yn yd Y (2 ^ 40) h (lit< tt) l

-- a floor and a ceiling over 2 ^ 60
floor_below : (n : ℕ) → n / 2 ^ 60 * 2 ^ 60 ≤ n
floor_below n = omega arith

ceiling_near : (n : ℕ) → ceil_quotient n (2 ^ 60) * 2 ^ 60 < n + 2 ^ 60
ceiling_near n = omega arith

minus_lambda_is : (p : Numbers) (Y : ℕ) → p.root_two ≡ two_ends →
    (let u = ceil_quotient (1630477228166597777 * Y) (2 ^ 60) in log_down (2 ^ 40 + Y - u) 40 -ℤ log_up (2 ^ 40 + Y + u) 40) ≡ neg_ℤ (lambda_up p Y)
unfolding lambda_up
minus_lambda_is p Y e =
    let u = ceil_quotient (1630477228166597777 * Y) (2 ^ 60) in
    rw (stretched_up_is p Y e) (turned (log_down (2 ^ 40 + Y - u) 40) (log_up (2 ^ 40 + Y + u) 40))
  where
    turned : (a b : ℤ) → a -ℤ b ≡ neg_ℤ (b -ℤ a)
    turned a b = omega (arith, ints)

lambda_is : (p : Numbers) (Y : ℕ) → p.root_two ≡ two_ends →
    (let u = 1630477228166597776 * Y / 2 ^ 60 in log_down (2 ^ 40 + Y + u) 40 -ℤ log_up (2 ^ 40 + Y - u) 40) ≡ lambda_down p Y
unfolding lambda_down
lambda_is p Y e = rw (stretched_down_is p Y e) refl

-- the ends of the logarithm of 1
none_at_one : log_down (2 ^ 40) 40 -ℤ log_up (2 ^ 40) 40 ≡ pos 0
unfolding log_down log_up digits_down digits_up count_leading_zeros
none_at_one = refl

module _ (p : Numbers) (s y : Fraction) (two : p.root_two ≡ two_ends) (between : IsBetween p.root_two (2 ^ 60) s) (packing : IsPacking y) where
  at_quotients : (P : Fraction → Fraction → Type 0) →
      ((sn sd yn yd Rd : ℕ) → IsRoot sn sd 1630477228166597776 1630477228166597777 → IsShare yn yd → 0 < Rd → Rd + sn * yn ≡ yd * sd + yn * sd →
      P (ratio sn sd) (ratio yn yd)) → P s y
  at_quotients P k =
      by_quotients P s y 1630477228166597776 1630477228166597777 (lit< tt) (lit≤ tt) (rw two at between) packing
      (λ sn sd yn yd root share. let r = room sn sd 1630477228166597776 1630477228166597777 yn yd root share in
      k sn sd yn yd (yd * sd + yn * sd - sn * yn) root share (omega arith) (omega arith))

  -- minus the logarithm
  pub minus_lambda_least : (Y : ℕ) → Y ≤ 2 ^ 40 → IsAtMost y (ratio Y (2 ^ 40)) → AtLeast (minus_log_of (attraction_argument s y)) (bits (neg_ℤ (lambda_up p Y)))
  minus_lambda_least Y within below =
      at_quotients (λ s y. IsAtMost y (ratio Y (2 ^ 40)) → AtLeast (minus_log_of (attraction_argument s y)) (bits (neg_ℤ (lambda_up p Y))))
      (λ sn sd yn yd Rd root share pos_rd is below.
      let n = 1630477228166597777 * Y in
      subst (λ (z : ℤ). AtLeast (minus_log_of (attraction_argument (ratio sn sd) (ratio yn yd))) (bits z)) (minus_lambda_is p Y two)
      (minus_log_at sn sd yn yd Rd root share pos_rd is Y (ceil_quotient n (2 ^ 60)) within
      (to_order Y yn yd (let q = share.below in omega arith) below) (le-ceiling n (2 ^ 60) (lit< tt)) (ceiling_near n))) below

  pub lambda_most : (Y : ℕ) → Y ≤ 2 ^ 40 → IsAtMost y (ratio Y (2 ^ 40)) → AtMost (log_of (attraction_argument s y)) (bits (lambda_up p Y))
  lambda_most Y within below = (at_most_is_opposite (log_of (attraction_argument s y)) (bits (lambda_up p Y))).1 (minus_lambda_least Y within below)

  pub lambda_least : (Y : ℕ) → Y ≤ 2 ^ 40 → IsAtMost (ratio Y (2 ^ 40)) y → AtLeast (log_of (attraction_argument s y)) (bits (lambda_down p Y))
  lambda_least Y within above =
      at_quotients (λ s y. IsAtMost (ratio Y (2 ^ 40)) y → AtLeast (log_of (attraction_argument s y)) (bits (lambda_down p Y)))
      (λ sn sd yn yd Rd root share pos_rd is above.
      let n = 1630477228166597776 * Y in
      subst (λ (z : ℤ). AtLeast (log_of (attraction_argument (ratio sn sd) (ratio yn yd))) (bits z)) (lambda_is p Y two)
      (log_at sn sd yn yd Rd root share pos_rd is Y (n / 2 ^ 60) within
      (from_order Y yn yd (let q = share.below in omega arith) above) (floor_below n))) above

  -- the logarithm isn't negative
  pub log_not_negative : AtLeast (log_of (attraction_argument s y)) (bits (pos 0))
  log_not_negative =
      at_quotients (λ s y. AtLeast (log_of (attraction_argument s y)) (bits (pos 0)))
      (λ sn sd yn yd Rd root share pos_rd is.
      subst (λ (z : ℤ). AtLeast (log_of (attraction_argument (ratio sn sd) (ratio yn yd))) (bits z)) none_at_one
      (log_at sn sd yn yd Rd root share pos_rd is 0 0 (omega arith) (omega arith) (omega arith)))

  pub argument_positive : IsPositive (attraction_argument s y)
  argument_positive =
      at_quotients (λ s y. IsPositive (attraction_argument s y))
      (λ sn sd yn yd Rd root share pos_rd is.
      (quotient_of_parts (parts sn sd yn yd Rd root share pos_rd is) (above_pos sn sd yn yd Rd root share pos_rd is)).positive)

-- ---- for an instance of a case
-- the root of 2 of an instance lies between the ends of the numbers
pub instance_root : (c : Case) (x : Instance) → IsInstance c (enclosures_of c) x → IsBetween (numbers_of c).root_two (2 ^ 60) x.root_two
unfolding numbers_of
instance_root c x i = i.root_two

pub instance_lambda_most : (c : Case) (x : Instance) (y : Fraction) (Y : ℕ) (z : ℤ) → z ≡ lambda_up (numbers_of c) Y → Y ≤ 2 ^ 40 → IsInstance c (enclosures_of c) x → IsPacking y →
    IsAtMost y (ratio Y (2 ^ 40)) → AtMost (log_of (attraction_argument x.root_two y)) (bits z)
instance_lambda_most c x y Y z e within i packing below = rw e (lambda_most (numbers_of c) x.root_two y (two_exact c) (instance_root c x i) packing Y within below)

pub instance_lambda_least : (c : Case) (x : Instance) (y : Fraction) (Y : ℕ) (z : ℤ) → z ≡ lambda_down (numbers_of c) Y → Y ≤ 2 ^ 40 → IsInstance c (enclosures_of c) x → IsPacking y →
    IsAtMost (ratio Y (2 ^ 40)) y → AtLeast (log_of (attraction_argument x.root_two y)) (bits z)
instance_lambda_least c x y Y z e within i packing above = rw e (lambda_least (numbers_of c) x.root_two y (two_exact c) (instance_root c x i) packing Y within above)
