-- Differences of fractions, as numbers.
use Rattle.std.proofs.Common.{ℕ, ◌+◌, ◌*◌, ◌≡◌, arith}
use borrow.Author.Differences.{up, down}
use Rattle.log_laws.specs.Fraction.{Fraction, IsFraction, IsSame, sum_of, negated, difference}
use Rattle.log_laws.proofs.Parts.{parts_self, parts_sum, parts_negated, same_of_parts, product_pos}

pub difference_den : (x y : Fraction) → IsFraction x → IsFraction y → IsFraction (difference y x)
difference_den x y px py = product_pos y.den x.den py px

-- -y + (y - x) is -x
pub negated-difference : (x y : Fraction) → IsFraction x → IsFraction y → IsSame (sum_of (negated y) (difference y x)) (negated x)
negated-difference x y px py =
    let a = parts_self x.num x.den px in
    let b = parts_self y.num y.den py in
    same_of_parts (parts_sum (parts_negated b) (parts_sum b (parts_negated a))) (parts_negated a)
    (numbers (up x.num) (down x.num) x.den (up y.num) (down y.num) y.den)
  where
    numbers : (ux vx dx uy vy dy : ℕ) →
        (vy * (dy * dx) + (uy * dx + vx * dy) * dy) * dx + ux * (dy * (dy * dx))
        ≡ vx * (dy * (dy * dx)) + (uy * (dy * dx) + (vy * dx + ux * dy) * dy) * dx
    numbers ux vx dx uy vy dy = omega arith

-- (y - x) + x is y
pub difference-restored : (x y : Fraction) → IsFraction x → IsFraction y → IsSame (sum_of (difference y x) x) y
difference-restored x y px py =
    let a = parts_self x.num x.den px in
    let b = parts_self y.num y.den py in
    same_of_parts (parts_sum (parts_sum b (parts_negated a)) a) b
    (numbers (up x.num) (down x.num) x.den (up y.num) (down y.num) y.den)
  where
    numbers : (ux vx dx uy vy dy : ℕ) →
        ((uy * dx + vx * dy) * dx + ux * (dy * dx)) * dy + vy * (dy * dx * dx)
        ≡ uy * (dy * dx * dx) + ((vy * dx + ux * dy) * dx + vx * (dy * dx)) * dy
    numbers ux vx dx uy vy dy = omega arith
