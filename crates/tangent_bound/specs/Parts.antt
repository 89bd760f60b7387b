-- What a lower bound of the energy has of its box of compositions.
use Rattle.std.specs.Prelude.{◌≡◌, ◌+◌, pos, ◌+ℤ◌, unsigned_abs, slice_index}
use Rattle.log_laws.specs.Squaring.{log_down, log_up}
use Rattle.log_laws.specs.Sums.{int_sum_below}
use Rattle.log_laws.specs.Whole.{ceil_quotient}
use Rattle.case_types.specs.declared.parts.MixLow.{MixLow}
use Rattle.case_types.specs.Arithmetic.Bounds.{Box, covolume_range, covolume_scale, flat_packing, mixing_low, ratio_high}
use Rattle.case_types.specs.Arithmetic.Numbers.{Numbers}

-- it is the part of this box
pub record IsMixLow (p : Numbers) (x : Box) (m : MixLow) : Type 0 where
  pub mixing : m.mixing ≡ int_sum_below p.count (λ i. mixing_low p (slice_index x.lo i) (slice_index x.hi i))
  pub covolume : pos m.covolume ≡ (covolume_range p x).lo
  pub log_covolume : m.log_covolume ≡ log_up (unsigned_abs (covolume_range p x).hi) (56 + p.lift)
  pub ratio : m.ratio ≡ ratio_high p x
  pub flat : m.flat ≡ flat_packing p (pos m.covolume)
  pub steep : m.steep ≡ ceil_quotient m.covolume (covolume_scale p)
  pub volume_flat : m.volume_flat ≡ log_down m.flat 40 +ℤ p.log_e.lo
