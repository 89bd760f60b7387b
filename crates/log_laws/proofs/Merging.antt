-- Two lists of terms of one shape merge into one, each factor being the sum of the two; and a log sum with its bound is one list
-- of terms, the rest being a factor of the logarithm of 2.
use Rattle.std.proofs.Common.{ℕ, ◌+◌, ◌*◌, ◌<◌, ◌≡◌, refl, sym, subst, List, [], ◌∷◌, ◌++◌, append_assoc, append-nil, arith}
use Rattle.std.proofs.Math.IntN.{zero-*ℤ}
use lib.IntN.{ℤ, pos, ◌*ℤ◌}
use borrow.Author.Differences.{up, down}
use Rattle.log_laws.specs.Fraction.{Fraction, IsFraction, IsSame, sum_of, negated, product_of, whole}
use Rattle.log_laws.specs.LogSum.{Term, LogSum, IsAtLeastOne, AtLeast, two_to, added, scaled, scaled_terms, opposite_terms}
use Rattle.log_laws.proofs.Parts.{parts_self, parts_sum, parts_product, parts_negated, same_of_parts, parts_of_same, product_pos}
use Rattle.log_laws.proofs.Spellings.{scaled-append}
use Rattle.log_laws.proofs.Steps.{term, at_least_one-merge, at_least_one-split, at_least_one-same_factor}
use Rattle.log_laws.proofs.Dropping.{at_least_one-drop_zero}
use Rattle.log_laws.proofs.Sums.{den_of}
use Rattle.log_laws.proofs.Terms.{dens_of}
use Rattle.log_laws.proofs.Order.{at_least_one-reordered, to_front, to_back, reordered-append, IsReordered}
use Rattle.log_laws.proofs.Order.IsReordered.{next, chain}

-- ---- two lists of one shape are merged into one
pub data AreMerged : List Term → List Term → List Term → Type 0 where
  none : AreMerged [] [] []
  more : (f g h a : Fraction) {ps qs rs : List Term} → (0 < (sum_of f g).den → (0 < h.den) × IsSame (sum_of f g) h) → AreMerged ps qs rs →
      AreMerged (term f a ∷ ps) (term g a ∷ qs) (term h a ∷ rs)

pub merged : {ps qs rs : List Term} (zs : List Term) → AreMerged ps qs rs → IsAtLeastOne (ps ++ (qs ++ zs)) → IsAtLeastOne (rs ++ zs)
merged zs none one = one
merged zs (more f g h a {ps = ps} {qs = qs} {rs = rs} d m) one =
    let z1 = at_least_one-reordered (next (to_front (term g a) ps (qs ++ zs))) one in
    let z2 = at_least_one-merge f g a (ps ++ (qs ++ zs)) z1 in
    let e = d z2.is_least.0.1.0 in
    let z3 = at_least_one-same_factor (sum_of f g) h a (ps ++ (qs ++ zs)) e.0 e.1 z2 in
    let z4 = at_least_one-reordered (chain (to_back (term h a) ps (qs ++ zs)) (reordered-append ps (to_back (term h a) qs zs))) z3 in
    let z5 = merged (term h a ∷ zs) m z4 in
    at_least_one-reordered (to_front (term h a) rs zs) z5

-- a * f + b * f and c * f
product_same : (a b c f : Fraction) → IsFraction a → IsFraction b → IsFraction c → IsFraction f → IsSame (sum_of a b) c →
    IsSame (sum_of (product_of a f) (product_of b f)) (product_of c f)
product_same a b c f pa pb pc pf e =
    let xa = parts_self a.num a.den pa in
    let xb = parts_self b.num b.den pb in
    let xf = parts_self f.num f.den pf in
    let xc = parts_of_same {f = sum_of a b} {g = c} pc e (parts_sum xa xb) in
    same_of_parts (parts_sum (parts_product xa xf) (parts_product xb xf)) (parts_product xc xf)
    (spread (up a.num) (down a.num) a.den (up b.num) (down b.num) b.den (up f.num) (down f.num) f.den)
  where
    spread : (ua va da ub vb db uf vf df : ℕ) →
        ((ua * uf + va * vf) * (db * df) + (ub * uf + vb * vf) * (da * df)) * (da * db * df)
        + ((ua * db + ub * da) * vf + (va * db + vb * da) * uf) * (da * df * (db * df))
        ≡ ((ua * db + ub * da) * uf + (va * db + vb * da) * vf) * (da * df * (db * df))
        + ((ua * vf + va * uf) * (db * df) + (ub * vf + vb * uf) * (da * df)) * (da * db * df)
    spread ua va da ub vb db uf vf df = omega arith

-- a and b times a list, where c is a + b
pub scaled_merged : (a b c : Fraction) (ts : List Term) → IsFraction a → IsFraction b → IsFraction c → IsSame (sum_of a b) c →
    AreMerged (scaled_terms a ts) (scaled_terms b ts) (scaled_terms c ts)
scaled_merged a b c [] pa pb pc e = none
scaled_merged a b c (t ∷ ts) pa pb pc e =
    more (product_of a t.factor) (product_of b t.factor) (product_of c t.factor) t.argument
    (λ h. let pf = factor_den a.den b.den t.factor.den h in (product_pos c.den t.factor.den pc pf, product_same a b c t.factor pa pb pc pf e))
    (scaled_merged a b c ts pa pb pc e)
  where
    factor_den : (a b f : ℕ) → 0 < a * f * (b * f) → 0 < f
    factor_den a b f h = (den_of a f (den_of (a * f) (b * f) h).0).1

-- a list and its opposite leave nothing
pub opposite_merged : (ts : List Term) → AreMerged ts (opposite_terms ts) (scaled_terms (whole (pos 0)) ts)
opposite_merged [] = none
opposite_merged (t ∷ ts) =
    more t.factor (negated t.factor) (product_of (whole (pos 0)) t.factor) t.argument
    (λ h. let pf = (den_of t.factor.den t.factor.den h).0 in (
      product_pos 1 t.factor.den (omega arith) pf,
      (let x = parts_self t.factor.num t.factor.den pf in
          same_of_parts (parts_sum x (parts_negated x)) (parts_product (parts_self (pos 0) 1 (omega arith)) x)
          (nothing (up t.factor.num) (down t.factor.num) t.factor.den)),
    ))
    (opposite_merged ts)
  where
    nothing : (u v d : ℕ) → (u * d + v * d) * (1 * d) + (0 * v + 0 * u) * (d * d) ≡ (0 * u + 0 * v) * (d * d) + (v * d + u * d) * (1 * d)
    nothing u v d = omega arith

pub dropped : (ts zs : List Term) → IsAtLeastOne (scaled_terms (whole (pos 0)) ts ++ zs) → IsAtLeastOne zs
dropped [] zs one = one
dropped (t ∷ ts) zs one =
    let e = zero-times t.factor.num in
    dropped ts zs (at_least_one-drop_zero (product_of (whole (pos 0)) t.factor) t.argument (scaled_terms (whole (pos 0)) ts ++ zs) e.0 e.1 one)
  where
    zero-times : (z : ℤ) → (up (pos 0 *ℤ z) ≡ 0) × (down (pos 0 *ℤ z) ≡ 0)
    zero-times z = rw (zero-*ℤ z) (refl, refl)

-- the rest among the terms
abbrev pub terms_of : LogSum → List Term
terms_of s = two_to s.rest ∷ s.terms

abbrev pub bound : Fraction → List Term
bound r = two_to (negated r) ∷ []

pub opened : (s : LogSum) (r : Fraction) → AtLeast s r → IsAtLeastOne (terms_of s ++ bound r)
opened s r x =
    let d = dens_of s r x in
    let z = at_least_one-split s.rest (negated r) (whole (pos 2)) s.terms d.0 d.1 x.product in
    let n : IsReordered (two_to (negated r) ∷ s.terms) (s.terms ++ two_to (negated r) ∷ []) =
    subst (λ (ts : List Term). IsReordered (two_to (negated r) ∷ ts) (s.terms ++ two_to (negated r) ∷ [])) (append-nil s.terms) (to_back (two_to (negated r)) s.terms []) in
    at_least_one-reordered (next n) z

pub closed : (s : LogSum) (r : Fraction) → IsAtLeastOne (terms_of s ++ bound r) → AtLeast s r
closed s r x =
    let n : IsReordered (s.terms ++ two_to (negated r) ∷ []) (two_to (negated r) ∷ s.terms) =
    subst (λ (ts : List Term). IsReordered (s.terms ++ two_to (negated r) ∷ []) (two_to (negated r) ∷ ts)) (append-nil s.terms) (to_front (two_to (negated r)) s.terms []) in
    record { product = at_least_one-merge s.rest (negated r) (whole (pos 2)) s.terms (at_least_one-reordered (next n) x) }

-- a sum apart, and back
pub apart : (s t : LogSum) (zs : List Term) → IsAtLeastOne (terms_of (added s t) ++ zs) → IsAtLeastOne (terms_of s ++ (terms_of t ++ zs))
apart s t zs one =
    let d = den_of s.rest.den t.rest.den one.is_least.0.1.0 in
    let z = at_least_one-split s.rest t.rest (whole (pos 2)) ((s.terms ++ t.terms) ++ zs) d.0 d.1 one in
    let z' = subst (λ (ts : List Term). IsAtLeastOne (two_to s.rest ∷ two_to t.rest ∷ ts)) (append_assoc s.terms t.terms zs) z in
    at_least_one-reordered (next (to_back (two_to t.rest) s.terms (t.terms ++ zs))) z'

pub joined : (s t : LogSum) (zs : List Term) → IsAtLeastOne (terms_of s ++ (terms_of t ++ zs)) → IsAtLeastOne (terms_of (added s t) ++ zs)
joined s t zs one =
    let z = at_least_one-reordered (next (to_front (two_to t.rest) s.terms (t.terms ++ zs))) one in
    let z' = subst (λ (ts : List Term). IsAtLeastOne (two_to s.rest ∷ two_to t.rest ∷ ts)) (sym (append_assoc s.terms t.terms zs)) z in
    at_least_one-merge s.rest t.rest (whole (pos 2)) ((s.terms ++ t.terms) ++ zs) z'

-- c times a sum, apart
pub scaled_apart : (c : Fraction) (s t : LogSum) (zs : List Term) → IsFraction c → IsAtLeastOne (terms_of (scaled c (added s t)) ++ zs) →
    IsAtLeastOne (terms_of (scaled c s) ++ (terms_of (scaled c t) ++ zs))
scaled_apart c s t zs pc one =
    let d = den_of s.rest.den t.rest.den (den_of c.den (s.rest.den * t.rest.den) one.is_least.0.1.0).1 in
    let pos_cs = product_pos c.den s.rest.den pc d.0 in
    let pos_ct = product_pos c.den t.rest.den pc d.1 in
    let x = subst (λ (ts : List Term). IsAtLeastOne (two_to (product_of c (sum_of s.rest t.rest)) ∷ (ts ++ zs))) (scaled-append c s.terms t.terms) one in
    apart (scaled c s) (scaled c t) zs
    (at_least_one-same_factor (product_of c (sum_of s.rest t.rest)) (sum_of (product_of c s.rest) (product_of c t.rest)) (whole (pos 2))
    ((scaled_terms c s.terms ++ scaled_terms c t.terms) ++ zs) (product_pos (c.den * s.rest.den) (c.den * t.rest.den) pos_cs pos_ct)
    (distributed d.0 d.1) x)
  where
    distributed : 0 < s.rest.den → 0 < t.rest.den → IsSame (product_of c (sum_of s.rest t.rest)) (sum_of (product_of c s.rest) (product_of c t.rest))
    distributed ps pt =
        let xc = parts_self c.num c.den pc in
        let xs = parts_self s.rest.num s.rest.den ps in
        let xt = parts_self t.rest.num t.rest.den pt in
        same_of_parts (parts_product xc (parts_sum xs xt)) (parts_sum (parts_product xc xs) (parts_product xc xt))
        (numbers (up c.num) (down c.num) c.den (up s.rest.num) (down s.rest.num) s.rest.den (up t.rest.num) (down t.rest.num) t.rest.den)
      where
        numbers : (uc vc dc us vs ds ut vt dt : ℕ) →
            (uc * (us * dt + ut * ds) + vc * (vs * dt + vt * ds)) * (dc * ds * (dc * dt))
            + ((uc * vs + vc * us) * (dc * dt) + (uc * vt + vc * ut) * (dc * ds)) * (dc * (ds * dt))
            ≡ ((uc * us + vc * vs) * (dc * dt) + (uc * ut + vc * vt) * (dc * ds)) * (dc * (ds * dt))
            + (uc * (vs * dt + vt * ds) + vc * (us * dt + ut * ds)) * (dc * ds * (dc * dt))
        numbers uc vc dc us vs ds ut vt dt = omega arith
