-- The value of a cell's form is the energy of a mole less the plane: the lifts cancel, and the two logarithms of the attraction
-- are that of a quotient.
use Rattle.std.proofs.Common.{ℕ, ◌+◌, ◌*◌, ◌^◌, ◌<◌, ◌≡◌, refl, sym, ap, subst, ◌∙◌, List, [], ◌∷◌, ◌++◌, append_assoc, append-nil, arith, ℤ, pos, negsuc, neg_ℤ, ◌*ℤ◌}
use Rattle.std.proofs.lemmas.Nat.{pow_pos}
use Rattle.std.proofs.Math.IntN.{neg_ℤ-neg_ℤ}
use borrow.Author.Differences.{up, down, neg_is}
use Rattle.log_laws.specs.Fraction.{Fraction, IsFraction, IsSame, sum_of, negated, difference, product_of, whole, inverse}
use Rattle.log_laws.specs.LogSum.{Term, LogSum, AtLeast, IsAtLeastOne, IsPositive, two_to, added, constant, times_log, ratio, log_of}
use Rattle.log_laws.proofs.Exports.{IsParts, at_least_one-factors, at_least_one-inverse, at_least_one-power_of_two, at_least_one-product, at_least_one-reordered, at_least_one-same_argument, at_least_one-same_factor, den_of, dens_of, fraction_is, fraction_one, mul-neg, parts_negated, parts_of_same, parts_product, parts_self, parts_sum, product_pos, same_of_parts, term, to_back, to_front, turned}
use Rattle.log_laws.proofs.Exports.IsReordered.{next, swap, chain}
use Rattle.tangent_bound.proofs.CellValues.{Constants, cell_value}
use Rattle.tangent_bound.proofs.SlopeParts.{Values}

-- the terms of a cell's value, in one row
in_a_row : (ms : List Term) (a b c d e : Term) →
    ((((((ms ++ a ∷ []) ++ b ∷ []) ++ []) ++ c ∷ []) ++ d ∷ e ∷ []) ++ []) ++ [] ≡ ms ++ (a ∷ b ∷ c ∷ d ∷ e ∷ [])
in_a_row ms a b c d e = simp (append_assoc, append-nil) refl

-- ---- the energy of a mole
abbrev pub energy : LogSum → Fraction → Fraction → Fraction → Fraction → Fraction → LogSum
energy mixing y push b share argument =
    added mixing
    (added (added (log_of y) (constant push))
    (added (times_log (negated fraction_one) b)
    (added (times_log (negated fraction_one) (difference fraction_one y))
    (times_log share argument))))

abbrev pub above_root : Fraction → Fraction → Fraction
above_root s y = sum_of fraction_one (product_of y (sum_of fraction_one s))

abbrev pub below_root : Fraction → Fraction → Fraction
below_root s y = difference fraction_one (product_of y (difference s fraction_one))

-- how the parts' values stand to those of the energy
pub record IsEnergy (n : Constants) (v : Values) (b push share argument : Fraction) : Type 0 where
  pub positive : IsPositive b
  pub lifted : up v.lifted.num * (b.den * 1) ≡ up b.num * 2 ^ n.lift * v.lifted.den
  pub push_is : IsSame (product_of (inverse v.packing) (product_of v.plain n.log_e)) push
  pub push_fraction : IsFraction push
  pub share_is : IsSame (negated (product_of n.half_root (product_of (product_of (inverse v.lifted) v.attraction) fraction_one))) share
  pub share_fraction : IsFraction share
  pub above : IsPositive (above_root n.root v.packing)
  pub below : IsPositive (below_root n.root v.packing)
  pub argument_is : up (above_root n.root v.packing).num * (below_root n.root v.packing).den * argument.den
      ≡ up argument.num * ((above_root n.root v.packing).den * up (below_root n.root v.packing).num)
  pub argument_positive : IsPositive argument

-- the denominators of the rest
rest_dens : (m f r q l : ℕ) → 0 < m * 1 * 1 * 1 * 1 * (f * (r * (1 * 1))) * q * l → (0 < m) × (0 < f) × (0 < r) × (0 < q) × (0 < l)
rest_dens m f r q l h =
    let a = den_of (m * 1 * 1 * 1 * 1 * (f * (r * (1 * 1))) * q) l h in
    let b = den_of (m * 1 * 1 * 1 * 1 * (f * (r * (1 * 1)))) q a.0 in
    let c = den_of (m * 1 * 1 * 1 * 1) (f * (r * (1 * 1))) b.0 in
    let d = den_of f (r * (1 * 1)) c.1 in
    let e = den_of r (1 * 1) d.1 in
    (omega (arith, c), d.0, e.0, b.1, a.1)

zero_parts : IsParts (whole (pos 0)) 0 0 1
zero_parts = parts_self (pos 0) 1 (omega arith)

-- the rest of a cell's value less r and k, and that of the energy less r and the plane
rest_same : (m f t q p l r : Fraction) (k : ℕ) → 0 < m.den → 0 < f.den → 0 < t.den → 0 < q.den → 0 < p.den → 0 < l.den → 0 < r.den → IsSame q p →
    IsSame
    (sum_of (difference (sum_of (sum_of (sum_of (sum_of (sum_of (sum_of (sum_of m (whole (pos 0))) (negated (whole (pos 0)))) (whole (pos k))) (negated (whole (pos 0))))
    (negated (product_of f (product_of t (sum_of (whole (pos 0)) (negated (whole (pos 0)))))))) q) (negated l)) r) (product_of (negated fraction_one) (whole (pos k))))
    (difference (sum_of m (sum_of (sum_of (whole (pos 0)) p) (sum_of (whole (pos 0)) (sum_of (whole (pos 0)) (whole (pos 0)))))) (sum_of r l))
rest_same m f t q p l r k pm pf pt pq pp pl pr e =
    let z = zero_parts in
    let xm = parts_self m.num m.den pm in
    let xq = parts_self q.num q.den pq in
    let xp = parts_of_same {f = q} {g = p} pp e xq in
    let xl = parts_self l.num l.den pl in
    let xr = parts_self r.num r.den pr in
    let xk = parts_self (pos k) 1 (omega arith) in
    let pull = parts_product (parts_self f.num f.den pf) (parts_product (parts_self t.num t.den pt) (parts_sum z (parts_negated z))) in
    let a = parts_sum (parts_sum (parts_sum (parts_sum (parts_sum (parts_sum (parts_sum xm z) (parts_negated z)) xk) (parts_negated z)) (parts_negated pull)) xq) (parts_negated xl) in
    same_of_parts (parts_sum (parts_sum a (parts_negated xr)) (parts_product (parts_negated (parts_self (pos 1) 1 (omega arith))) xk))
    (parts_sum (parts_sum xm (parts_sum (parts_sum z xp) (parts_sum z (parts_sum z z)))) (parts_negated (parts_sum xr xl)))
    (numbers (up m.num) (down m.num) m.den (up f.num) (down f.num) f.den (up t.num) (down t.num) t.den (up q.num) (down q.num) q.den (up l.num) (down l.num) l.den (up r.num) (down r.num) r.den k)
  where
    numbers : (um vm dm uf vf df ur vr dr uq vq dq ul vl dl ua va da k : ℕ) → (((((((((um * 1 + 0 * dm) * 1 + 0 * (dm * 1)) * 1 + k * ((dm * 1) * 1)) * 1 + 0 * (((dm * 1) * 1) * 1)) * (df * (dr * (1 * 1))) + (uf * (ur * (0 * 1 + 0 * 1) + vr * (0 * 1 + 0 * 1)) + vf * (ur * (0 * 1 + 0 * 1) + vr * (0 * 1 + 0 * 1))) * ((((dm * 1) * 1) * 1) * 1)) * dq + uq * (((((dm * 1) * 1) * 1) * 1) * (df * (dr * (1 * 1))))) * dl + vl * ((((((dm * 1) * 1) * 1) * 1) * (df * (dr * (1 * 1)))) * dq)) * da + va * (((((((dm * 1) * 1) * 1) * 1) * (df * (dr * (1 * 1)))) * dq) * dl)) * (1 * 1) + (0 * k + 1 * 0) * ((((((((dm * 1) * 1) * 1) * 1) * (df * (dr * (1 * 1)))) * dq) * dl) * da)) * ((dm * ((1 * dq) * (1 * (1 * 1)))) * (da * dl)) + ((vm * ((1 * dq) * (1 * (1 * 1))) + ((0 * dq + vq * 1) * (1 * (1 * 1)) + (0 * (1 * 1) + (0 * 1 + 0 * 1) * 1) * (1 * dq)) * dm) * (da * dl) + (ua * dl + ul * da) * (dm * ((1 * dq) * (1 * (1 * 1))))) * (((((((((dm * 1) * 1) * 1) * 1) * (df * (dr * (1 * 1)))) * dq) * dl) * da) * (1 * 1)) ≡ ((um * ((1 * dq) * (1 * (1 * 1))) + ((0 * dq + uq * 1) * (1 * (1 * 1)) + (0 * (1 * 1) + (0 * 1 + 0 * 1) * 1) * (1 * dq)) * dm) * (da * dl) + (va * dl + vl * da) * (dm * ((1 * dq) * (1 * (1 * 1))))) * (((((((((dm * 1) * 1) * 1) * 1) * (df * (dr * (1 * 1)))) * dq) * dl) * da) * (1 * 1)) + (((((((((vm * 1 + 0 * dm) * 1 + 0 * (dm * 1)) * 1 + 0 * ((dm * 1) * 1)) * 1 + 0 * (((dm * 1) * 1) * 1)) * (df * (dr * (1 * 1))) + (uf * (ur * (0 * 1 + 0 * 1) + vr * (0 * 1 + 0 * 1)) + vf * (ur * (0 * 1 + 0 * 1) + vr * (0 * 1 + 0 * 1))) * ((((dm * 1) * 1) * 1) * 1)) * dq + vq * (((((dm * 1) * 1) * 1) * 1) * (df * (dr * (1 * 1))))) * dl + ul * ((((((dm * 1) * 1) * 1) * 1) * (df * (dr * (1 * 1)))) * dq)) * da + ua * (((((((dm * 1) * 1) * 1) * 1) * (df * (dr * (1 * 1)))) * dq) * dl)) * (1 * 1) + (0 * 0 + 1 * k) * ((((((((dm * 1) * 1) * 1) * 1) * (df * (dr * (1 * 1)))) * dq) * dl) * da)) * ((dm * ((1 * dq) * (1 * (1 * 1)))) * (da * dl))
    numbers um vm dm uf vf df ur vr dr uq vq dq ul vl dl ua va da k = omega arith

-- what is positive, times a natural number
pub up_times : (z : ℤ) (n : ℕ) → 0 < up z → up (z *ℤ pos n) ≡ up z * n
up_times (pos u) n h = refl
up_times (negsuc u) n h = absurd (omega arith)

pub raised_positive : (b : Fraction) (k : ℕ) → 0 < up b.num → 0 < up (b.num *ℤ pos (2 ^ k))
raised_positive b k h = rw (up_times b.num (2 ^ k) h) (product_pos (up b.num) (2 ^ k) h (pow_pos k))

raised_same : (b l : Fraction) (k : ℕ) → 0 < up b.num → up l.num * (b.den * 1) ≡ up b.num * 2 ^ k * l.den → up l.num * (b.den * 1) ≡ up (b.num *ℤ pos (2 ^ k)) * l.den
raised_same b l k h e = rw (up_times b.num (2 ^ k) h) e

-- minus f * (t * -1) is f * (t * 1)
twice_negated : (f t : Fraction) → negated (product_of f (product_of t (negated fraction_one))) ≡ product_of f (product_of t fraction_one)
twice_negated f t =
    fraction_is (neg_ℤ (f.num *ℤ (t.num *ℤ neg_ℤ (pos 1)))) (f.num *ℤ (t.num *ℤ pos 1)) (f.den * (t.den * 1)) (f.den * (t.den * 1))
    (ap (λ (z : ℤ). neg_ℤ (f.num *ℤ z)) (mul-neg t.num (pos 1)) ∙ ap neg_ℤ (mul-neg f.num (t.num *ℤ pos 1)) ∙ neg_ℤ-neg_ℤ (f.num *ℤ (t.num *ℤ pos 1))) refl

quotient_argument : (p q a : Fraction) → 0 < up p.num → up p.num * q.den * a.den ≡ up a.num * (p.den * up q.num) → up (p.num *ℤ pos q.den) * a.den ≡ up a.num * (p.den * up q.num)
quotient_argument p q a h e = rw (up_times p.num q.den h) e

goal_den : (m p r l : ℕ) → 0 < m → 0 < p → 0 < r → 0 < l → 0 < m * (1 * p * (1 * (1 * 1))) * (r * l)
goal_den m p r l pm pp pr pl = product_pos (m * (1 * p * (1 * (1 * 1)))) (r * l) (product_pos m (1 * p * (1 * (1 * 1))) pm (omega (arith, pp))) (product_pos r l pr pl)

-- the value of a cell's form is the energy less the plane
pub cell_is_energy : (n : Constants) (v : Values) (b push share argument r : Fraction) → IsEnergy n v b push share argument →
    AtLeast (cell_value n v) r → AtLeast (energy v.mixing v.packing push b share argument) (sum_of r v.plane)
cell_is_energy n v b push share argument r h x =
    let f = n.half_root in
    let k = n.lift in
    let m = negated fraction_one in
    let y = v.packing in
    let t = product_of (inverse v.lifted) v.attraction in
    let q = product_of (inverse y) (product_of v.plain n.log_e) in
    let w = product_of f (product_of t fraction_one) in
    let P = above_root n.root y in
    let Q = below_root n.root y in
    let ms = v.mixing.terms ++ [] in
    let R = two_to (difference (cell_value n v).rest r) in
    let ta = term fraction_one y in
    let tb = term m b in
    let tc = term m (difference fraction_one y) in
    let td = term (negated w) P in
    let te : Term = term (negated (product_of f (product_of t m))) Q in
    let d = dens_of (cell_value n v) r x in
    let p = rest_dens v.mixing.rest.den f.den t.den q.den v.plane.den d.0 in
    let z0 = subst (λ (ts : List Term). IsAtLeastOne (R ∷ ts)) (in_a_row v.mixing.terms ta (term m v.lifted) tc td te) x.product in
    let z1 = at_least_one-reordered (turned (R ∷ v.mixing.terms) (ta ∷ term m v.lifted ∷ tc ∷ td ∷ te ∷ []) []) z0 in
    let z2 : IsAtLeastOne (term m v.lifted ∷ R ∷ ta ∷ tc ∷ td ∷ te ∷ ms) = at_least_one-reordered (chain swap (next (to_front R (ta ∷ tc ∷ td ∷ te ∷ []) ms))) z1 in
    let z3 = at_least_one-same_argument m v.lifted (product_of b (whole (pos (2 ^ k)))) (R ∷ ta ∷ tc ∷ td ∷ te ∷ ms)
    (product_pos b.den 1 h.positive.0 (omega arith), raised_positive b k h.positive.1) (raised_same b v.lifted k h.positive.1 h.lifted) z2 in
    let z4 = at_least_one-factors m b (whole (pos (2 ^ k))) (R ∷ ta ∷ tc ∷ td ∷ te ∷ ms) h.positive (omega arith, pow_pos k) z3 in
    let z5 : IsAtLeastOne (term m (whole (pos (2 ^ k))) ∷ R ∷ tb ∷ ta ∷ tc ∷ td ∷ te ∷ ms) = at_least_one-reordered (chain swap (next swap)) z4 in
    let z6 = at_least_one-power_of_two m (difference (cell_value n v).rest r) k (tb ∷ ta ∷ tc ∷ td ∷ te ∷ ms) (omega arith) z5 in
    let S = two_to (sum_of (difference (cell_value n v).rest r) (product_of m (whole (pos k)))) in
    let z7 : IsAtLeastOne (te ∷ td ∷ S ∷ tb ∷ ta ∷ tc ∷ ms) = at_least_one-reordered (chain (to_front te (S ∷ tb ∷ ta ∷ tc ∷ td ∷ []) ms) (next (to_front td (S ∷ tb ∷ ta ∷ tc ∷ []) ms))) z6 in
    let rest = td ∷ S ∷ tb ∷ ta ∷ tc ∷ ms in
    let e_is : negated (product_of f (product_of t m)) ≡ w = twice_negated f t in
    let z8 = subst (λ (g : Fraction). IsAtLeastOne (term g Q ∷ rest)) e_is z7 in
    let z9 = at_least_one-same_argument w Q (ratio (up Q.num) Q.den) rest (h.below.0, h.below.1) refl z8 in
    let z10 = at_least_one-inverse w (negated w) (up Q.num) Q.den rest (sym (neg_is w.num).1) (sym (neg_is w.num).0) refl z9 in
    let back = ratio Q.den (up Q.num) in
    let z11 = at_least_one-same_factor (negated w) share back rest h.share_fraction h.share_is z10 in
    let z12 : IsAtLeastOne (td ∷ term share back ∷ S ∷ tb ∷ ta ∷ tc ∷ ms) = at_least_one-reordered swap z11 in
    let z13 = at_least_one-same_factor (negated w) share P (term share back ∷ S ∷ tb ∷ ta ∷ tc ∷ ms) h.share_fraction h.share_is z12 in
    let z14 = at_least_one-product share P back (S ∷ tb ∷ ta ∷ tc ∷ ms) h.above (h.below.1, h.below.0) z13 in
    let z15 = at_least_one-same_argument share (product_of P back) argument (S ∷ tb ∷ ta ∷ tc ∷ ms) h.argument_positive (quotient_argument P Q argument h.above.1 h.argument_is) z14 in
    let ts = term share argument in
    let z16 : IsAtLeastOne (S ∷ ts ∷ tb ∷ ta ∷ tc ∷ ms) = at_least_one-reordered swap z15 in
    let energy_rest = (energy v.mixing y push b share argument).rest in
    let goal = difference energy_rest (sum_of r v.plane) in
    let z17 = at_least_one-same_factor (sum_of (difference (cell_value n v).rest r) (product_of m (whole (pos k)))) goal (whole (pos 2)) (ts ∷ tb ∷ ta ∷ tc ∷ ms)
    (goal_den v.mixing.rest.den push.den r.den v.plane.den p.0 h.push_fraction d.1 p.4)
    (rest_same v.mixing.rest f t q push v.plane r k p.0 p.1 p.2 p.3 h.push_fraction p.4 d.1 h.push_is) z16 in
    let T = two_to goal in
    let z18 : IsAtLeastOne (ta ∷ tb ∷ tc ∷ ts ∷ T ∷ ms) =
    at_least_one-reordered (chain (to_back T (ts ∷ tb ∷ ta ∷ tc ∷ []) ms) (chain (to_back ts (tb ∷ ta ∷ tc ∷ []) (T ∷ ms)) swap)) z17 in
    record { product = at_least_one-reordered (turned (ta ∷ tb ∷ tc ∷ ts ∷ []) (T ∷ v.mixing.terms) []) z18 }
