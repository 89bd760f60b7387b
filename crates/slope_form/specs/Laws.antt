-- What the operations on slope forms keep: at every point, whose steps are d, the result means the operation's value at the
-- centre and at the point. A fraction is a log sum without terms.
use Rattle.std.specs.Prelude.{ℕ, zero, suc, ◌^◌, ◌*◌, ◌<◌, ◌≤◌, ℤ, pos}
use Rattle.log_laws.specs.Between.{Ends, IsBetween}
use Rattle.log_laws.specs.Fraction.{Fraction, whole, difference, inverse}
use Rattle.log_laws.specs.LogSum.{LogSum, AtLeast, added, scaled, opposite, constant, times_log, log_of, ratio}
use Rattle.slope_form.specs.Forms.{Form}
use Rattle.slope_form.specs.Meaning.{IsIn, MeanValue, Steps, IsSloped, Means, AreStepsBetween, bits_of}

-- a number between the ends
abbrev pub KeepsConstant : Ends → Form → Type 0
KeepsConstant c h = (d : Steps) (x : Fraction) → IsBetween c (2 ^ 40) x → Means h d (constant x) (constant x)

abbrev pub KeepsSum : Form → Form → Form → Type 0
KeepsSum f g h =
    (d : Steps) (u v s t : LogSum) → Means f d u v → Means g d s t → Means h d (added u s) (added v t)

-- and also where the ranges say nothing
abbrev pub KeepsSlopedSum : Form → Form → Form → Type 0
KeepsSlopedSum f g h =
    (d : Steps) (u v s t : LogSum) → IsSloped f d u v → IsSloped g d s t → IsSloped h d (added u s) (added v t)

abbrev pub KeepsDifference : Form → Form → Form → Type 0
KeepsDifference f g h =
    (d : Steps) (u v s t : LogSum) → Means f d u v → Means g d s t → Means h d (added u (opposite s)) (added v (opposite t))

abbrev pub KeepsSlopedDifference : Form → Form → Form → Type 0
KeepsSlopedDifference f g h =
    (d : Steps) (u v s t : LogSum) → IsSloped f d u v → IsSloped g d s t → IsSloped h d (added u (opposite s)) (added v (opposite t))

-- the second factor is a fraction everywhere, or the first is
abbrev pub KeepsProduct : Form → Form → Form → Type 0
KeepsProduct f g h =
    (d : Steps) (u v : LogSum) (x y : Fraction) → Means f d u v → Means g d (constant x) (constant y) → Means h d (scaled x u) (scaled y v)

abbrev pub KeepsFractionProduct : Form → Form → Form → Type 0
KeepsFractionProduct f g h =
    (d : Steps) (x y : Fraction) (u v : LogSum) → Means f d (constant x) (constant y) → Means g d u v → Means h d (scaled x u) (scaled y v)

-- the divisor is a fraction everywhere, and positive where there is a result
abbrev pub KeepsQuotient : Form → Form → Form → Type 0
KeepsQuotient f g h =
    (d : Steps) (u v : LogSum) (x y : Fraction) → Means f d u v → Means g d (constant x) (constant y) → Means h d (scaled (inverse x) u) (scaled (inverse y) v)

-- of a fraction, which is positive where there is a result
abbrev pub KeepsLog : Form → Form → Type 0
KeepsLog f h =
    (d : Steps) (x y : Fraction) → Means f d (constant x) (constant y) → Means h d (log_of x) (log_of y)

-- p of n parts: x log x, and nothing where there are none
abbrev pub x_log_x : ℕ → ℕ → LogSum
x_log_x zero n = constant (whole (pos 0))
x_log_x (suc p) n = times_log (ratio (suc p) n) (ratio (suc p) n)

-- the value at m, and the change up to every fraction from a to b, all in 2^-40
abbrev pub KeepsXLogX : ℕ → ℕ → ℕ → Ends → Ends → Type 0
KeepsXLogX a b m at by =
    IsIn at (x_log_x m (2 ^ 40))
    × ((p n : ℕ) → 0 < n → a * n ≤ p * 2 ^ 40 → p * 2 ^ 40 ≤ b * n →
    MeanValue by (difference (ratio p n) (ratio m (2 ^ 40))) (x_log_x m (2 ^ 40)) (x_log_x p n))

-- the value is at least z where the steps lie from a to b, in 2^-40
abbrev pub KeepsLow : Form → (ℕ → ℤ) → (ℕ → ℤ) → ℤ → Type 0
KeepsLow f a b z =
    (d : Steps) (u v : LogSum) → IsSloped f d u v → AreStepsBetween a b d → AtLeast v (bits_of z)
