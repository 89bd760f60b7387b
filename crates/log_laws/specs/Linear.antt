-- A linear form of fractions that add up to 1, over the ends that they lie between.
use Rattle.std.specs.Prelude.{ℕ, ◌^◌, ℤ, pos, neg_ℤ, ◌+ℤ◌, ◌*ℤ◌}
use Rattle.std.specs.Int.{int_max}
use Rattle.log_laws.specs.Sums.{int_sum_below}
use Rattle.log_laws.specs.Whole.{ceil_div}

-- what the fractions before the last add at most: each its step, at the end where that is greater
abbrev pub rises : ℕ → (ℕ → ℤ) → (ℕ → ℕ) → (ℕ → ℕ) → ℤ
rises rest step lo hi = int_sum_below rest (λ i. int_max (step i *ℤ pos (lo i)) (step i *ℤ pos (hi i)))

-- fractions in 2^-40, the last being what the others leave of 1: the number of the last with what the others add, rounded up
abbrev pub affine_high : ℕ → ℤ → (ℕ → ℤ) → (ℕ → ℕ) → (ℕ → ℕ) → ℤ
affine_high rest last step lo hi = ceil_div (last *ℤ pos (2 ^ 40) +ℤ rises rest step lo hi) (pos (2 ^ 40))

-- the same at least, rounded down: by the opposite numbers
abbrev pub affine_low : ℕ → ℤ → (ℕ → ℤ) → (ℕ → ℕ) → (ℕ → ℕ) → ℤ
affine_low rest last step lo hi = neg_ℤ (affine_high rest (neg_ℤ last) (λ i. neg_ℤ (step i)) lo hi)
