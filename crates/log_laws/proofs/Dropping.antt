-- Terms that may go: of factor 0, and of a power of 2, which the rest takes.
use Rattle.std.proofs.Common.{ℕ, zero, suc, ◌+◌, ◌*◌, ◌/◌, ◌^◌, ◌≡◌, List, ◌∷◌, arith}
use Rattle.std.proofs.Math.Nat.{pow-suc, pow-zero, zero-mul, zero-div}
use Rattle.std.proofs.lemmas.Nat.{pow_pos}
use lib.IntN.{pos}
use borrow.Author.Differences.{up, down}
use Rattle.log_laws.specs.Fraction.{Fraction, IsFraction, sum_of, product_of, whole}
use Rattle.log_laws.specs.LogSum.{Term, IsAtLeastOne, rise, fall, two_to}
use Rattle.log_laws.proofs.Bridge.{weights_of, weights_of_are}
use Rattle.log_laws.proofs.Order.{at_least_one-reordered}
use Rattle.log_laws.proofs.Order.IsReordered.{next, swap, chain}
use Rattle.log_laws.proofs.Parts.{parts_self, parts_sum, parts_product, same_of_parts, product_pos}
use Rattle.log_laws.proofs.Products.{at_least_one_at, at_least_one_from}
use Rattle.log_laws.proofs.Steps.{term, weight, at_least_one-merge, at_least_one-same_factor, at_least_one-same_argument, at_least_one-factors}
use Rattle.log_laws.proofs.Sums.{den_of}
use Rattle.log_laws.proofs.Terms.{at_least_one-drop_one}
use Rattle.log_laws.proofs.Weights.{Weight, AreWeightsOf}

pub at_least_one-drop_zero : (f a : Fraction) (ts : List Term) → up f.num ≡ 0 → down f.num ≡ 0 → IsAtLeastOne (term f a ∷ ts) → IsAtLeastOne ts
at_least_one-drop_zero f a ts eu ed one =
    go one.denominator (weights_of one.denominator ts) (rise one.denominator f) (fall one.denominator f) (none (up f.num) eu) (none (down f.num) ed)
    (weights_of_are one.denominator (term f a ∷ ts) one.is_least.0)
  where
    none : (z : ℕ) → z ≡ 0 → z * one.denominator / f.den ≡ 0
    none z e = rw (e, zero-mul one.denominator) (zero-div f.den)

    go : (h : ℕ) (ws : List Weight) (p m : ℕ) → p ≡ 0 → m ≡ 0 → AreWeightsOf h (term f a ∷ ts) (weight (up a.num) a.den p m ∷ ws) → IsAtLeastOne ts
    go h ws p m ep em x =
        at_least_one_from h ts ws x.1
        (let y = at_least_one_at h (term f a ∷ ts) (weight (up a.num) a.den p m ∷ ws) x one in
        let z = rw (ep, em, pow-zero (up a.num), pow-zero a.den) at y in omega arith)

pub at_least_one-power_of_two : (f g : Fraction) (k : ℕ) (ts : List Term) → IsFraction f → IsAtLeastOne (term f (whole (pos (2 ^ k))) ∷ two_to g ∷ ts) → IsAtLeastOne (two_to (sum_of g (product_of f (whole (pos k)))) ∷ ts)
at_least_one-power_of_two f g zero ts pf h =
    let z = at_least_one-drop_one f (two_to g ∷ ts) (rw (pow-zero 2) at h) in
    let pg = z.is_least.0.1.0 in
    at_least_one-same_factor g (sum_of g (product_of f (whole (pos 0)))) (whole (pos 2)) ts (product_pos g.den (f.den * 1) pg (product_pos f.den 1 pf (omega arith)))
    (same_of_parts (parts_self g.num g.den pg) (parts_sum (parts_self g.num g.den pg) (parts_product (parts_self f.num f.den pf) (parts_self (pos 0) 1 (omega arith))))
    (numbers (up g.num) (down g.num) g.den (up f.num) (down f.num) f.den)) z
  where
    numbers : (ug vg dg uf vf df : ℕ) → ug * (dg * (df * 1)) + (vg * (df * 1) + (uf * 0 + vf * 0) * dg) * dg ≡ (ug * (df * 1) + (uf * 0 + vf * 0) * dg) * dg + vg * (dg * (df * 1))
    numbers ug vg dg uf vf df = omega arith
at_least_one-power_of_two f g (suc k) ts pf h =
    let two : Fraction = whole (pos 2) in
    let power : Fraction = whole (pos (2 ^ k)) in
    let z1 = at_least_one-same_argument f (whole (pos (2 ^ suc k))) (product_of two power) (two_to g ∷ ts) (omega arith, product_pos 2 (2 ^ k) (omega arith) (pow_pos k)) (rw (pow-suc 2 k) (omega arith)) h in
    let z2 = at_least_one-factors f two power (two_to g ∷ ts) (omega arith, omega arith) (omega arith, pow_pos k) z1 in
    let z3 : IsAtLeastOne (term f power ∷ two_to g ∷ two_to f ∷ ts) = at_least_one-reordered (chain swap (next swap)) z2 in
    let z4 = at_least_one-power_of_two f g k (two_to f ∷ ts) pf z3 in
    let pg = (den_of g.den (f.den * 1) z4.is_least.0.1.0).0 in
    let xg = parts_self g.num g.den pg in
    let xf = parts_self f.num f.den pf in
    let z5 = at_least_one-merge (sum_of g (product_of f (whole (pos k)))) f two ts z4 in
    at_least_one-same_factor (sum_of (sum_of g (product_of f (whole (pos k)))) f) (sum_of g (product_of f (whole (pos (suc k))))) two ts
    (product_pos g.den (f.den * 1) pg (product_pos f.den 1 pf (omega arith)))
    (same_of_parts (parts_sum (parts_sum xg (parts_product xf (parts_self (pos k) 1 (omega arith)))) xf) (parts_sum xg (parts_product xf (parts_self (pos (suc k)) 1 (omega arith))))
    (numbers (up g.num) (down g.num) g.den (up f.num) (down f.num) f.den k)) z5
  where
    numbers : (ug vg dg uf vf df k : ℕ) → ((ug * (df * 1) + (uf * k + vf * 0) * dg) * df + uf * (dg * (df * 1))) * (dg * (df * 1)) + (vg * (df * 1) + (uf * 0 + vf * (suc k)) * dg) * ((dg * (df * 1)) * df) ≡ (ug * (df * 1) + (uf * (suc k) + vf * 0) * dg) * ((dg * (df * 1)) * df) + ((vg * (df * 1) + (uf * 0 + vf * k) * dg) * df + vf * (dg * (df * 1))) * (dg * (df * 1))
    numbers ug vg dg uf vf df k = omega arith
