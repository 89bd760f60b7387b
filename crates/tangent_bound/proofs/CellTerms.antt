-- How the values of a cell's parts stand to those of the energy: the argument of the attraction's logarithm, its share and the push.
use Rattle.std.proofs.Common.{ℕ, zero, suc, ◌+◌, ◌*◌, ◌^◌, ◌<◌, ◌≡◌, ap, arith, pos}
use Rattle.std.proofs.lemmas.Nat.{pow_pos}
use borrow.Author.Differences.{up, down, product_is}
use Rattle.log_laws.specs.Fraction.{Fraction, IsFraction, IsSame, sum_of, product_of, quotient_of, difference, negated, whole, inverse}
use Rattle.log_laws.specs.LogSum.{IsPositive}
use Rattle.log_laws.proofs.Exports.{IsParts, fraction_one, parts_inverse, parts_negated, parts_of_same, parts_one, parts_positive, parts_product, parts_quotient, parts_respelled, parts_self, parts_sum, product_pos, quotient_of_parts, same_of_parts}
use Rattle.tangent_bound.proofs.CellEnergy.{above_root, below_root, up_times}

-- (1 + y + s y) / (1 + y - s y)
abbrev pub above_line : Fraction → Fraction → Fraction
above_line s y = sum_of (sum_of fraction_one y) (product_of s y)

abbrev pub below_line : Fraction → Fraction → Fraction
below_line s y = difference (sum_of fraction_one y) (product_of s y)

above_same : (s y : Fraction) → IsFraction s → IsFraction y → IsSame (above_root s y) (above_line s y)
above_same s y ps py =
    let xs = parts_self s.num s.den ps in
    let xy = parts_self y.num y.den py in
    same_of_parts (parts_sum parts_one (parts_product xy (parts_sum parts_one xs))) (parts_sum (parts_sum parts_one xy) (parts_product xs xy))
    (numbers (up s.num) (down s.num) s.den (up y.num) (down y.num) y.den)
  where
    numbers : (us vs ds uy vy dy : ℕ) → (1 * (dy * (1 * ds)) + (uy * (1 * ds + us * 1) + vy * (0 * ds + vs * 1)) * 1) * ((1 * dy) * (ds * dy)) + ((0 * dy + vy * 1) * (ds * dy) + (us * vy + vs * uy) * (1 * dy)) * (1 * (dy * (1 * ds))) ≡ ((1 * dy + uy * 1) * (ds * dy) + (us * uy + vs * vy) * (1 * dy)) * (1 * (dy * (1 * ds))) + (0 * (dy * (1 * ds)) + (uy * (0 * ds + vs * 1) + vy * (1 * ds + us * 1)) * 1) * ((1 * dy) * (ds * dy))
    numbers us vs ds uy vy dy = omega arith

below_same : (s y : Fraction) → IsFraction s → IsFraction y → IsSame (below_root s y) (below_line s y)
below_same s y ps py =
    let xs = parts_self s.num s.den ps in
    let xy = parts_self y.num y.den py in
    same_of_parts (parts_sum parts_one (parts_negated (parts_product xy (parts_sum xs (parts_negated parts_one))))) (parts_sum (parts_sum parts_one xy) (parts_negated (parts_product xs xy)))
    (numbers (up s.num) (down s.num) s.den (up y.num) (down y.num) y.den)
  where
    numbers : (us vs ds uy vy dy : ℕ) → (1 * (dy * (ds * 1)) + (uy * (vs * 1 + 1 * ds) + vy * (us * 1 + 0 * ds)) * 1) * ((1 * dy) * (ds * dy)) + ((0 * dy + vy * 1) * (ds * dy) + (us * uy + vs * vy) * (1 * dy)) * (1 * (dy * (ds * 1))) ≡ ((1 * dy + uy * 1) * (ds * dy) + (us * vy + vs * uy) * (1 * dy)) * (1 * (dy * (ds * 1))) + (0 * (dy * (ds * 1)) + (uy * (us * 1 + 0 * ds) + vy * (vs * 1 + 1 * ds)) * 1) * ((1 * dy) * (ds * dy))
    numbers us vs ds uy vy dy = omega arith

-- the same number has a positive numerator too, and the cross products agree
pub positive_as : (f g : Fraction) → IsPositive f → IsFraction g → IsSame f g → IsPositive g × (up f.num * g.den ≡ up g.num * f.den)
positive_as f g pf pg e =
    let u : up f.num * g.den ≡ up g.num * f.den = omega (arith, ap up e, product_is f.num (pos g.den), product_is g.num (pos f.den)) in
    ((pg, some (up f.num) g.den (up g.num) f.den (product_pos (up f.num) g.den pf.1 pg) u), u)
  where
    some : (a b c d : ℕ) → 0 < a * b → a * b ≡ c * d → 0 < c
    some a b zero d h e = absurd (omega (arith, h, e))
    some a b (suc c) d h e = omega arith

-- the argument of the attraction's logarithm is that of the two logarithms
pub argument_of : (s y : Fraction) → IsFraction s → IsFraction y → IsPositive (above_root s y) → IsPositive (below_root s y) →
    IsPositive (quotient_of (above_line s y) (below_line s y))
    × (up (above_root s y).num * (below_root s y).den * (quotient_of (above_line s y) (below_line s y)).den
    ≡ up (quotient_of (above_line s y) (below_line s y)).num * ((above_root s y).den * up (below_root s y).num))
argument_of s y ps py pa pb = made (above_root s y) (below_root s y) (above_line s y) (below_line s y) pa pb
    (product_pos (1 * y.den) (s.den * y.den) (omega (arith, py)) (product_pos s.den y.den ps py)) (product_pos (1 * y.den) (s.den * y.den) (omega (arith, py)) (product_pos s.den y.den ps py))
    (above_same s y ps py) (below_same s y ps py)
  where
    crossed : (ap dp an dn aq dq ad dd : ℕ) → ap * dn ≡ an * dp → aq * dd ≡ ad * dq → ap * dq * (dn * ad) ≡ an * dd * (dp * aq)
    crossed ap dp an dn aq dq ad dd a b = let c : (ap * dn) * (ad * dq) ≡ (an * dp) * (aq * dd) = cc in omega arith

    made : (p q n d : Fraction) → IsPositive p → IsPositive q → IsFraction n → IsFraction d → IsSame p n → IsSame q d →
        IsPositive (quotient_of n d) × (up p.num * q.den * (quotient_of n d).den ≡ up (quotient_of n d).num * (p.den * up q.num))
    made p q n d pp pq pn pd ep eq =
        let a = positive_as p n pp pn ep in
        let b = positive_as q d pq pd eq in
        let u = up_times n.num d.den a.0.1 in (
          (product_pos n.den (up d.num) pn b.0.1, rw u (product_pos (up n.num) d.den a.0.1 pd)),
          rw u (crossed (up p.num) p.den (up n.num) n.den (up q.num) q.den (up d.num) d.den a.1 b.1),
        )

-- ---- the attraction's share and the push
-- the inverse of a lifted covolume
lifted_inverse : (l b : Fraction) (k : ℕ) → IsPositive l → IsPositive b → up l.num * (b.den * 1) ≡ up b.num * 2 ^ k * l.den → IsParts (inverse l) b.den 0 (up b.num * 2 ^ k)
lifted_inverse l b k pl pb e = record {
  den_pos = pl.1;
  d_pos = product_pos (up b.num) (2 ^ k) pb.1 (pow_pos k);
  is = numbers (up l.num) l.den (up b.num) b.den (2 ^ k) e;
}
  where
    numbers : (ul dl ub db n : ℕ) → ul * (db * 1) ≡ ub * n * dl → dl * (ub * n) + 0 * ul ≡ 0 * (ub * n) + db * ul
    numbers ul dl ub db n e = omega (arith, e)

lifted_parts : (l a : Fraction) (k : ℕ) → IsFraction l → IsFraction a → IsSame (product_of a (whole (pos (2 ^ k)))) l → IsParts l (up a.num * 2 ^ k) (down a.num * 2 ^ k) a.den
lifted_parts l a k pl pa e =
    parts_respelled (parts_of_same {f = product_of a (whole (pos (2 ^ k)))} {g = l} pl e (parts_product (parts_self a.num a.den pa) (parts_self (pos (2 ^ k)) 1 (omega arith)))) pa
    (numbers (up a.num) (down a.num) a.den (2 ^ k))
  where
    numbers : (u v d n : ℕ) → (u * n + v * 0) * d + v * n * (d * 1) ≡ u * n * (d * 1) + (u * 0 + v * n) * d
    numbers u v d n = omega arith

twice_parts : (s : Fraction) → IsPositive s → IsParts (product_of (whole (pos 2)) s) (2 * up s.num) 0 s.den
twice_parts s ps =
    parts_respelled (parts_product (parts_self (pos 2) 1 (omega arith)) (parts_positive s ps)) ps.0 (numbers (up s.num) s.den)
  where
    numbers : (u d : ℕ) → (2 * u + 0 * 0) * d + 0 * (1 * d) ≡ 2 * u * (1 * d) + (2 * 0 + 0 * u) * d
    numbers u d = omega arith

pub half_parts : (s : Fraction) → IsPositive s → IsParts (inverse (product_of (whole (pos 2)) s)) s.den 0 (2 * up s.num)
half_parts s ps =
    let q = quotient_of_parts (twice_parts s ps) (omega (arith, ps.1)) in
    record { den_pos = q.positive.1; d_pos = omega (arith, ps.1); is = numbers (up (product_of (whole (pos 2)) s).num) (1 * s.den) (2 * up s.num) s.den q.is }
  where
    numbers : (x d u e : ℕ) → x * e ≡ u * d → d * u + 0 * x ≡ 0 * u + e * x
    numbers x d u e h = omega (arith, h)

-- the share of the attraction, for a lifted by k too
pub share_of : (s b a l m : Fraction) (k : ℕ) → IsPositive s → IsPositive b → IsFraction a → IsPositive l → IsFraction m →
    up l.num * (b.den * 1) ≡ up b.num * 2 ^ k * l.den → IsSame (product_of a (whole (pos (2 ^ k)))) m →
    IsSame (negated (product_of (inverse (product_of (whole (pos 2)) s)) (product_of (product_of (inverse l) m) fraction_one)))
    (negated (quotient_of a (product_of (product_of (whole (pos 2)) s) b)))
share_of s b a l m k ps pb pa pl pm eb ea =
    let twice = parts_respelled (parts_product (twice_parts s ps) (parts_positive b pb)) (product_pos s.den b.den ps.0 pb.0) (none (2 * up s.num) s.den (up b.num) b.den) in
    let some = product_pos (2 * up s.num) (up b.num) (omega (arith, ps.1)) pb.1 in
    let q = quotient_of_parts twice some in
    same_of_parts
    (parts_negated (parts_product (half_parts s ps) (parts_product (parts_product (lifted_inverse l b k pl pb eb) (lifted_parts m a k pm pa ea)) parts_one)))
    (parts_negated (parts_quotient (parts_self a.num a.den pa) q some (product_pos s.den b.den ps.0 pb.0)))
    (numbers (up s.num) s.den (up b.num) b.den (up a.num) (down a.num) a.den (2 ^ k))
  where
    none : (u d x e : ℕ) → (u * x + 0 * 0) * (d * e) + 0 * (d * e) ≡ u * x * (d * e) + (u * 0 + 0 * x) * (d * e)
    none u d x e = omega arith

    numbers : (us ds ub db ua va da k : ℕ) → (ds * ((db * (ua * k) + 0 * (va * k)) * 0 + (db * (va * k) + 0 * (ua * k)) * 1) + 0 * ((db * (ua * k) + 0 * (va * k)) * 1 + (db * (va * k) + 0 * (ua * k)) * 0)) * (da * (2 * us * ub)) + (ua * (ds * db)) * ((2 * us) * (((ub * k) * da) * 1)) ≡ (va * (ds * db)) * ((2 * us) * (((ub * k) * da) * 1)) + (ds * ((db * (ua * k) + 0 * (va * k)) * 1 + (db * (va * k) + 0 * (ua * k)) * 0) + 0 * ((db * (ua * k) + 0 * (va * k)) * 0 + (db * (va * k) + 0 * (ua * k)) * 1)) * (da * (2 * us * ub))
    numbers us ds ub db ua va da k = omega arith

-- the push, for a plain covolume p of the same value as b
pub push_of : (y c b p : Fraction) → IsPositive y → IsFraction c → IsFraction b → IsFraction p → IsSame b p →
    IsSame (product_of (inverse y) (product_of p c)) (quotient_of (product_of c b) y)
push_of y c b p py pc pb pp e =
    let xb = parts_self b.num b.den pb in
    let xp = parts_of_same {f = b} {g = p} pp e xb in
    let xc = parts_self c.num c.den pc in
    let q = quotient_of_parts (parts_positive y py) py.1 in
    same_of_parts (parts_product (parts_inverse y py) (parts_product xp xc)) (parts_quotient (parts_product xc xb) q py.1 py.0)
    (numbers (up y.num) y.den (up c.num) (down c.num) c.den (up b.num) (down b.num) b.den)
  where
    numbers : (uy dy uc vc dc ub vb db : ℕ) → (dy * (ub * uc + vb * vc) + 0 * (ub * vc + vb * uc)) * (dc * db * uy) + ((uc * vb + vc * ub) * dy) * (uy * (db * dc)) ≡ ((uc * ub + vc * vb) * dy) * (uy * (db * dc)) + (dy * (ub * vc + vb * uc) + 0 * (ub * uc + vb * vc)) * (dc * db * uy)
    numbers uy dy uc vc dc ub vb db = omega arith
