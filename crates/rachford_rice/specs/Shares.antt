-- Which share of vapour is right: where the sum S changes its sign.
use Rattle.std.specs.Prelude.{ℕ, ◌≡◌, ◌+◌, ◌^◌, ◌≤◌, ℤ, pos, ◌≤ℤ◌, ◌<ℤ◌}
use Rattle.rachford_rice.specs.declared.shares.VapourShare.{VapourShare}
use Rattle.rachford_rice.specs.declared.shares.VapourShare.TheVariants.{Inside, AllLiquid, AllVapour}

-- neighbours between 0 and 1, in 2^-20, with the change of sign between them
pub record Brackets (s : ℕ → ℤ) (lo hi : ℕ) : Type 0 where
  pub neighbours : hi ≡ lo + 1
  pub in_range : hi ≤ 2 ^ 20
  pub not_below : pos 0 ≤ℤ s lo
  pub below : s hi <ℤ pos 0

abbrev pub IsShareOf : (ℕ → ℤ) → VapourShare → Type 0
IsShareOf s (Inside lo hi) = Brackets s lo hi
IsShareOf s AllLiquid = s 0 <ℤ pos 0
IsShareOf s AllVapour = pos 0 ≤ℤ s (2 ^ 20)

-- S never rises
abbrev pub NeverRises : (ℕ → ℤ) → Type 0
NeverRises s = (v w : ℕ) → v ≤ w → w ≤ 2 ^ 20 → s w ≤ℤ s v
