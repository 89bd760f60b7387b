-- Bounds of energies over a box of compositions, in whole numbers: 2^-40 bit where nothing else is said.
use Rattle.std.specs.Prelude.{ℕ, ◌+◌, ◌-◌, ◌*◌, ◌/◌, ◌^◌, List, ◌==◌, cond, nat_lt, if◌then◌else◌, ℤ, pos, ◌+ℤ◌, ◌-ℤ◌, ◌*ℤ◌, int_le, unsigned_abs, slice_index, slice_index_or}
use Rattle.std.specs.Int.{int_min, int_max}
use Rattle.log_laws.specs.Squaring.{log_down, log_up}
use Rattle.case_types.specs.declared.cells.BoxX.{BoxX}
use Rattle.case_types.specs.Arithmetic.Numbers.{Numbers}
use Rattle.log_laws.specs.Sums.{sum_below, int_sum_below, least_below, greatest_below, list_below}
use Rattle.log_laws.specs.Linear.{affine_low, affine_high}
use Rattle.log_laws.specs.Between.{Ends}
use Rattle.log_laws.specs.Whole.{ceil_quotient, floor_div, ceil_div}
use Rattle.case_types.specs.Arithmetic.Tables.{ends_at, ends_of_pair}

abbrev pub one : ℕ
one = 2 ^ 40

-- the ends of the fractions of all components, in 2^-40
pub record Box : Type 0 where
  pub lo : List ℕ
  pub hi : List ℕ

-- a box of compositions without the facts that its type keeps
abbrev pub box_of : BoxX → Box
box_of x = record { lo = x.a; hi = x.b }

abbrev pub low_fraction : Box → ℕ → ℤ
low_fraction x i = pos (slice_index x.lo i)

abbrev pub high_fraction : Box → ℕ → ℤ
high_fraction x i = pos (slice_index x.hi i)

-- ---- the mean covolume, in 2^-(56+lift): the last fraction is what the others leave of one
abbrev pub covolume_low_by_rest : Numbers → Box → ℤ
covolume_low_by_rest p x =
    let rest = p.count - 1 in
    affine_low rest (ends_at p.covolumes rest).lo (λ i. (ends_at p.covolumes i).lo -ℤ (ends_at p.covolumes rest).hi) (slice_index x.lo) (slice_index x.hi)

abbrev pub covolume_high_by_rest : Numbers → Box → ℤ
covolume_high_by_rest p x =
    let rest = p.count - 1 in
    affine_high rest (ends_at p.covolumes rest).hi (λ i. (ends_at p.covolumes i).hi -ℤ (ends_at p.covolumes rest).lo) (slice_index x.lo) (slice_index x.hi)

unfoldable pub covolume_range : Numbers → Box → Ends
covolume_range p x =
    let first = ends_at p.covolumes 0 in
    record {
      lo = int_max (least_below p.count (λ i. (ends_at p.covolumes i).lo) first.lo) (covolume_low_by_rest p x);
      hi = int_min (greatest_below p.count (λ i. (ends_at p.covolumes i).hi) first.hi) (covolume_high_by_rest p x);
    }

-- ---- the attraction over the covolume
-- in 2^-(49+lift)
abbrev pub attraction_low : Numbers → Box → ℤ
attraction_low p x =
    floor_div (int_sum_below p.count (λ i. low_fraction x i *ℤ
    floor_div (int_sum_below p.count (λ j. low_fraction x j *ℤ (ends_of_pair p.attractions i j).lo)) (pos one))) (pos one)

abbrev pub attraction_high : Numbers → Box → ℤ
attraction_high p x =
    ceil_div (int_sum_below p.count (λ i. high_fraction x i *ℤ
    ceil_div (int_sum_below p.count (λ j. high_fraction x j *ℤ (ends_of_pair p.attractions i j).hi)) (pos one))) (pos one)

unfoldable pub ratio_low : Numbers → Box → ℤ
ratio_low p x = floor_div (attraction_low p x *ℤ pos (2 ^ 47)) (covolume_range p x).hi

unfoldable pub ratio_high : Numbers → Box → ℤ
ratio_high p x = int_min (ceil_div (attraction_high p x *ℤ pos (2 ^ 47)) (covolume_range p x).lo) p.rho

-- ---- the logarithm of the attraction term, at a packing
-- the root of 2 times the packing
abbrev pub stretched_down : Numbers → ℕ → ℕ
stretched_down p y = unsigned_abs (floor_div (p.root_two.lo *ℤ pos y) (pos (2 ^ 60)))

abbrev pub stretched_up : Numbers → ℕ → ℕ
stretched_up p y = unsigned_abs (ceil_div (p.root_two.hi *ℤ pos y) (pos (2 ^ 60)))

unfoldable pub lambda_down : Numbers → ℕ → ℤ
lambda_down p y = log_down (one + y + stretched_down p y) 40 -ℤ log_up (one + y - stretched_down p y) 40

unfoldable pub lambda_up : Numbers → ℕ → ℤ
lambda_up p y = log_up (one + y + stretched_up p y) 40 -ℤ log_down (one + y - stretched_up p y) 40

-- ---- the attraction term, at a packing: a ratio times that logarithm, over twice the root of 2
unfoldable pub attraction_term_low : Numbers → ℤ → ℕ → ℤ
attraction_term_low p ratio y = floor_div (ratio *ℤ lambda_down p y *ℤ pos (2 ^ 19)) p.root_two.hi

unfoldable pub attraction_term_high : Numbers → ℤ → ℕ → ℤ
attraction_term_high p ratio y = ceil_div (ratio *ℤ lambda_up p y *ℤ pos (2 ^ 19)) p.root_two.lo

-- ---- x log x for a fraction between a and b: below by the tangent at b
unfoldable pub mixing_low : Numbers → ℕ → ℕ → ℤ
mixing_low p a b =
    if b == 0 then pos 0
    else int_min
    (floor_div (pos b *ℤ log_down b 40) (pos one))
    (floor_div (pos a *ℤ log_down b 40 -ℤ p.log_e.hi *ℤ (pos b -ℤ pos a)) (pos one))

unfoldable pub mixing_up : ℕ → ℕ → ℤ
mixing_up a b = if b == 0 then pos 0 else ceil_div (pos a *ℤ log_up b 40) (pos one)

-- ---- the volume term, log2 y + log2e B / y
abbrev pub covolume_scale : Numbers → ℕ
covolume_scale p = 2 ^ (16 + p.lift)

-- at a packing, down and up
unfoldable pub volume_down : Numbers → ℤ → ℕ → ℤ
volume_down p b y = log_down y 40 +ℤ floor_div (p.log_e.lo *ℤ b) (pos y *ℤ pos (covolume_scale p))

unfoldable pub volume_up : Numbers → ℤ → ℕ → ℤ
volume_up p b y = log_up y 40 +ℤ ceil_div (p.log_e.hi *ℤ b) (pos y *ℤ pos (covolume_scale p))

-- the packing where it is flat, down
abbrev pub flat_packing : Numbers → ℤ → ℕ
flat_packing p b = unsigned_abs (floor_div (p.log_e.lo *ℤ b) (p.log_e.hi *ℤ pos (covolume_scale p)))

-- for packings from yl to yh: below by the tangent at yh, at yl, or where it is flat
unfoldable pub volume_low : Numbers → ℤ → ℕ → ℕ → ℤ
volume_low p b yl yh =
    let s = pos (covolume_scale p) in
    let w = p.log_e.lo *ℤ b in
    if int_le (p.log_e.hi *ℤ pos yh *ℤ s) w then volume_down p b yh
    else if int_le w (p.log_e.lo *ℤ pos yl *ℤ s) then volume_down p b yl
    else log_down (flat_packing p b) 40 +ℤ p.log_e.lo

-- ---- the energy
-- at every composition of the box and every packing from yl to yh the energy is at least this
unfoldable pub energy_low : Numbers → Box → ℕ → ℕ → ℤ
energy_low p x yl yh =
    let b = covolume_range p x in
    int_sum_below p.count (λ i. mixing_low p (slice_index x.lo i) (slice_index x.hi i))
    +ℤ volume_low p b.lo yl yh
    -ℤ log_up (unsigned_abs b.hi) (56 + p.lift)
    -ℤ log_up (one - yl) 40
    -ℤ attraction_term_high p (ratio_high p x) yh

-- at every composition of the box and the packing y the energy is at most this
unfoldable pub energy_up : Numbers → Box → ℕ → ℤ
energy_up p x y =
    let b = covolume_range p x in
    int_sum_below p.count (λ i. mixing_up (slice_index x.lo i) (slice_index x.hi i))
    +ℤ volume_up p b.hi y
    -ℤ log_down (unsigned_abs b.lo) (56 + p.lift)
    -ℤ log_down (one - y) 40
    -ℤ attraction_term_low p (ratio_low p x) y

-- ---- the box of a phase
-- n / d to a whole number, down and up
abbrev pub share_down : ℕ → ℕ → ℕ → ℕ
share_down scale n d = n * scale / d

abbrev pub share_up : ℕ → ℕ → ℕ → ℕ
share_up scale n d = ceil_quotient (n * scale) d

-- the smallest box that holds the composition of these parts, and 0 for components that aren't there
abbrev pub box_of_parts : ℕ → List ℕ → Box
box_of_parts n parts =
    let m = sum_below n (slice_index parts) in
    record {
      lo = list_below 4 (λ i. cond (nat_lt i n) (share_down one (slice_index parts i) m) 0);
      hi = list_below 4 (λ i. cond (nat_lt i n) (share_up one (slice_index parts i) m) 0);
    }

-- ---- planes
-- the chemical potential of a component
abbrev pub potential : List ℤ → ℕ → ℤ
potential lam i = slice_index_or lam i (pos 0)

-- a plane at a composition, times the number of its parts
abbrev pub plane_sum : ℕ → (ℕ → ℤ) → (ℕ → ℕ) → ℤ
plane_sum n lam parts = int_sum_below n (λ i. lam i *ℤ pos (parts i))

unfoldable pub plane_times : ℕ → List ℤ → List ℕ → ℤ
plane_times n lam parts = plane_sum n (potential lam) (slice_index parts)

-- at a composition of parts of the given sum
unfoldable pub plane_at : ℕ → List ℤ → List ℕ → ℕ → ℤ
plane_at n lam parts sum = floor_div (plane_times n lam parts) (pos sum)

-- over a box the plane is at most this
unfoldable pub plane_high : ℕ → List ℤ → Box → ℤ
plane_high n lam x =
    let rest = n - 1 in
    int_min
    (greatest_below n (potential lam) (potential lam 0))
    (affine_high rest (potential lam rest) (λ i. potential lam i -ℤ potential lam rest) (slice_index x.lo) (slice_index x.hi))
