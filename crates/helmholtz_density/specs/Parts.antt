-- What an upper bound of the energy has of its box of compositions.
use Rattle.std.specs.Prelude.{◌≡◌, ◌+◌, pos, unsigned_abs, slice_index}
use Rattle.log_laws.specs.Squaring.{log_down}
use Rattle.log_laws.specs.Sums.{int_sum_below}
use Rattle.case_types.specs.declared.parts.MixUp.{MixUp}
use Rattle.case_types.specs.Arithmetic.Bounds.{Box, covolume_range, mixing_up, ratio_low}
use Rattle.case_types.specs.Arithmetic.Numbers.{Numbers}

-- it is the part of this box
pub record IsMixUp (p : Numbers) (x : Box) (m : MixUp) : Type 0 where
  pub mixing : m.mixing ≡ int_sum_below p.count (λ i. mixing_up (slice_index x.lo i) (slice_index x.hi i))
  pub covolume : pos m.covolume ≡ (covolume_range p x).hi
  pub log_covolume : m.log_covolume ≡ log_down (unsigned_abs (covolume_range p x).lo) (56 + p.lift)
  pub ratio : m.ratio ≡ ratio_low p x
