-- What is left of the pressure at known middles.
use Rattle.std.specs.Prelude.{ℕ, ◌≡◌, ◌+◌, ◌≤◌, ◌<◌, Bool, true, false, int_lt, pos}
use Rattle.cubic_roots.specs.declared.middles.Middles.{Middles}
use Rattle.cubic_roots.specs.Pressures.{excess_of}

-- the pressure at y is above that of the case
abbrev pub is_above : Middles → ℕ → Bool
is_above m y = int_lt (pos 0) (excess_of (pos m.covolume) (pos m.ratio) y)

-- the packing fraction in 2^-40 where the slope of y*y/(1+2*y-y*y) over that of y/(1-y) is greatest, nearly
abbrev pub bend : ℕ
bend = 278264000000

-- it comes to be above from y to the next number, between two ends
pub record IsRiseBetween (m : Middles) (from to y : ℕ) : Type 0 where
  pub from_end : from ≤ y
  pub to_end : y < to
  pub below : is_above m y ≡ false
  pub above : is_above m (y + 1) ≡ true
