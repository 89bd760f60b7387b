-- How the differences v - u of sums, products and quotients are made of those of their parts, at least a number each.
use Rattle.std.proofs.Common.{ℕ, ◌*◌, ◌<◌, ◌≡◌, refl, sym, ap, subst, ◌∙◌, List, [], ◌∷◌, ◌++◌}
use lib.IntN.{pos}
use borrow.Author.Differences.{up}
use Rattle.log_laws.specs.Fraction.{Fraction, IsFraction, IsSame, sum_of, negated, difference, product_of, whole}
use Rattle.log_laws.specs.LogSum.{Term, LogSum, IsAtLeastOne, AtLeast, AtMost, added, scaled, scaled_terms, opposite, log_of, ratio, two_to}
use Rattle.log_laws.proofs.Parts.{product_pos}
use Rattle.log_laws.proofs.Spellings.{opposite-added, scaled-opposite, scaled-opposite_terms, opposite-scaled_terms, scaled-scaled_terms}
use Rattle.log_laws.proofs.Merging.{merged, scaled_merged, opposite_merged, dropped, terms_of, bound, opened, closed, apart, joined, scaled_apart}
use Rattle.log_laws.proofs.Order.{at_least_one-reordered, turned, reordered-append}
use Rattle.log_laws.proofs.Order.IsReordered.{next, swap, chain}
use Rattle.log_laws.proofs.Opposite.{at_most_is_opposite}
use Rattle.log_laws.proofs.Steps.{term, at_least_one-same_argument, at_least_one-factors}
use Rattle.log_laws.proofs.Terms.{fraction_one, at_least_one-inverse}

-- (v - u) + (v' - u') is (v + v') - (u + u')
pub sum_rule : (u v u' v' : LogSum) (r : Fraction) → AtLeast (added (added v (opposite u)) (added v' (opposite u'))) r →
    AtLeast (added (added v v') (opposite (added u u'))) r
sum_rule u v u' v' r x =
    let V = terms_of v in let M = terms_of (opposite u) in let V' = terms_of v' in let M' = terms_of (opposite u') in
    let n = bound r in
    let B = terms_of (added v' (opposite u')) in
    let z0 = apart (added v (opposite u)) (added v' (opposite u')) n (opened (added (added v (opposite u)) (added v' (opposite u'))) r x) in
    let z1 = apart v (opposite u) (B ++ n) z0 in
    let z2 = at_least_one-reordered (chain (reordered-append V (turned M B n)) (turned V B (M ++ n))) z1 in
    let z3 = apart v' (opposite u') (V ++ (M ++ n)) z2 in
    let z4 = at_least_one-reordered (chain (turned V' M' (V ++ (M ++ n))) (chain (reordered-append M' (chain (reordered-append V' (turned V M n)) (turned V' M (V ++ n))))
    (chain (turned M' M (V' ++ (V ++ n))) (reordered-append M (reordered-append M' (turned V' V n)))))) z3 in
    let z5 = joined (opposite u) (opposite u') (V ++ (V' ++ n)) z4 in
    let W = terms_of (added (opposite u) (opposite u')) in
    let z6 = at_least_one-reordered (chain (turned W V (V' ++ n)) (reordered-append V (turned W V' n))) z5 in
    let z7 = joined v v' (W ++ n) z6 in
    let z8 = joined (added v v') (added (opposite u) (opposite u')) n z7 in
    subst (λ (s : LogSum). AtLeast (added (added v v') s) r) (sym (opposite-added u u')) (closed (added (added v v') (added (opposite u) (opposite u'))) r z8)

-- y * (v - u) + b * u is y * v - x * u, where b is y - x
pub product_rule : (y b x : Fraction) (u v : LogSum) (r : Fraction) → IsFraction y → IsFraction b → IsFraction x → IsSame (sum_of (negated y) b) (negated x) →
    AtLeast (added (scaled y (added v (opposite u))) (scaled b u)) r → AtLeast (added (scaled y v) (opposite (scaled x u))) r
product_rule y b x u v r py pb px e h =
    let n = bound r in
    let V = terms_of (scaled y v) in
    let P = scaled_terms (negated y) (terms_of u) in
    let Q = scaled_terms b (terms_of u) in
    let R = scaled_terms (negated x) (terms_of u) in
    let z0 = apart (scaled y (added v (opposite u))) (scaled b u) n (opened (added (scaled y (added v (opposite u))) (scaled b u)) r h) in
    let z1 = scaled_apart y v (opposite u) (Q ++ n) py z0 in
    let z2 = subst (λ (ts : List Term). IsAtLeastOne (V ++ (ts ++ (Q ++ n)))) (scaled-opposite_terms y (terms_of u)) z1 in
    let z3 = at_least_one-reordered (chain (turned V P (Q ++ n)) (reordered-append P (turned V Q n))) z2 in
    let z4 = merged (V ++ n) (scaled_merged (negated y) b (negated x) (terms_of u) py pb px e) z3 in
    let z5 = at_least_one-reordered (turned R V n) z4 in
    let z6 = subst (λ (ts : List Term). IsAtLeastOne (V ++ (ts ++ n))) (sym (opposite-scaled_terms x (terms_of u))) z5 in
    closed (added (scaled y v) (opposite (scaled x u))) r (joined (scaled y v) (opposite (scaled x u)) n z6)

-- b * v + x * (v - u) is y * v - x * u, where b is y - x
pub turned_product_rule : (y b x : Fraction) (u v : LogSum) (r : Fraction) → IsFraction y → IsFraction b → IsFraction x → IsSame (sum_of b x) y →
    AtLeast (added (scaled b v) (scaled x (added v (opposite u)))) r → AtLeast (added (scaled y v) (opposite (scaled x u))) r
turned_product_rule y b x u v r py pb px e h =
    let n = bound r in
    let P = scaled_terms b (terms_of v) in
    let Q = scaled_terms x (terms_of v) in
    let R = terms_of (scaled y v) in
    let T = terms_of (scaled x (added v (opposite u))) in
    let M = terms_of (scaled x (opposite u)) in
    let z0 = apart (scaled b v) (scaled x (added v (opposite u))) n (opened (added (scaled b v) (scaled x (added v (opposite u)))) r h) in
    let z1 = at_least_one-reordered (turned P T n) z0 in
    let z2 = scaled_apart x v (opposite u) (P ++ n) px z1 in
    let z3 = at_least_one-reordered (chain (reordered-append Q (turned M P n)) (turned Q P (M ++ n))) z2 in
    let z4 = merged (M ++ n) (scaled_merged b x y (terms_of v) pb px py e) z3 in
    let z5 = joined (scaled y v) (scaled x (opposite u)) n z4 in
    subst (λ (s : LogSum). AtLeast (added (scaled y v) s) r) (scaled-opposite x u) (closed (added (scaled y v) (scaled x (opposite u))) r z5)

-- u + (v - u) is v
pub cancel_rule : (u v : LogSum) (r : Fraction) → AtLeast (added u (added v (opposite u))) r → AtLeast v r
cancel_rule u v r x =
    let n = bound r in
    let U = terms_of u in
    let V = terms_of v in
    let M = terms_of (opposite u) in
    let z0 = apart u (added v (opposite u)) n (opened (added u (added v (opposite u))) r x) in
    let z1 = at_least_one-reordered (turned U (terms_of (added v (opposite u))) n) z0 in
    let z2 = apart v (opposite u) (U ++ n) z1 in
    let z3 = at_least_one-reordered (chain (turned V M (U ++ n)) (chain (reordered-append M (turned V U n)) (turned M U (V ++ n)))) z2 in
    let z4 = merged (V ++ n) (opposite_merged U) z3 in
    closed v r (dropped U (V ++ n) z4)

-- z * ((v - u) + b * (x * u)) is z * v - x * u, where z * b * x is z - x
pub quotient_rule : (z b x : Fraction) (u v : LogSum) (r : Fraction) → IsFraction z → IsFraction b → IsFraction x →
    IsSame (sum_of (negated z) (product_of z (product_of b x))) (negated x) →
    AtLeast (scaled z (added (added v (opposite u)) (scaled b (scaled x u)))) r → AtLeast (added (scaled z v) (opposite (scaled x u))) r
quotient_rule z b x u v r pz pb px e h =
    let n = bound r in
    let V = terms_of (scaled z v) in
    let P = scaled_terms (negated z) (terms_of u) in
    let Q = scaled_terms (product_of z (product_of b x)) (terms_of u) in
    let R = scaled_terms (negated x) (terms_of u) in
    let T = scaled b (scaled x u) in
    let z0 = scaled_apart z (added v (opposite u)) T n pz (opened (scaled z (added (added v (opposite u)) T)) r h) in
    let z1 = scaled_apart z v (opposite u) (terms_of (scaled z T) ++ n) pz z0 in
    let z2 = subst (λ (ts : List Term). IsAtLeastOne (V ++ (ts ++ (terms_of (scaled z T) ++ n)))) (scaled-opposite_terms z (terms_of u)) z1 in
    let q : terms_of (scaled z T) ≡ Q = ap (scaled_terms z) (scaled-scaled_terms b x (terms_of u)) ∙ scaled-scaled_terms z (product_of b x) (terms_of u) in
    let z2' = subst (λ (ts : List Term). IsAtLeastOne (V ++ (P ++ (ts ++ n)))) q z2 in
    let z3 = at_least_one-reordered (chain (turned V P (Q ++ n)) (reordered-append P (turned V Q n))) z2' in
    let z4 = merged (V ++ n) (scaled_merged (negated z) (product_of z (product_of b x)) (negated x) (terms_of u) pz (product_pos z.den (b.den * x.den) pz (product_pos b.den x.den pb px)) px e) z3 in
    let z5 = at_least_one-reordered (turned R V n) z4 in
    let z6 = subst (λ (ts : List Term). IsAtLeastOne (V ++ (ts ++ n))) (sym (opposite-scaled_terms x (terms_of u))) z5 in
    closed (added (scaled z v) (opposite (scaled x u))) r (joined (scaled z v) (opposite (scaled x u)) n z6)

pub turn_rule : (s t : LogSum) (r : Fraction) → AtLeast (added s t) r → AtLeast (added t s) r
turn_rule s t r x =
    closed (added t s) r
    (joined t s (bound r) (at_least_one-reordered (turned (terms_of s) (terms_of t) (bound r)) (apart s t (bound r) (opened (added s t) r x))))

-- the logarithm of Y/Q less that of X/P is minus that of (X/P)/(Y/Q), which is a
pub log_rule : (X P Y Q : ℕ) (a r : Fraction) → 0 < X → 0 < P → 0 < Y → 0 < Q → up a.num * (P * Y) ≡ X * Q * a.den → AtMost (log_of a) r →
    AtLeast (added (log_of (ratio Y Q)) (opposite (log_of (ratio X P)))) (negated r)
log_rule X P Y Q a r pX pP pY pQ e h =
    let two = two_to (difference (negated (whole (pos 0))) (negated r)) in
    let m = negated fraction_one in
    let z0 = ((at_most_is_opposite (log_of a) r).0 h).product in
    let z1 : IsAtLeastOne (term m a ∷ two ∷ []) = at_least_one-reordered swap z0 in
    let z2 = at_least_one-same_argument m a (product_of (ratio X P) (ratio Q Y)) (two ∷ []) (product_pos P Y pP pY, product_pos X Q pX pQ) e z1 in
    let z3 = at_least_one-factors m (ratio X P) (ratio Q Y) (two ∷ []) (pP, pX) (pY, pQ) z2 in
    let z4 : IsAtLeastOne (term m (ratio Q Y) ∷ term m (ratio X P) ∷ two ∷ []) = at_least_one-reordered swap z3 in
    let z5 = at_least_one-inverse m fraction_one Q Y (term m (ratio X P) ∷ two ∷ []) refl refl refl z4 in
    record { product = at_least_one-reordered (chain (next swap) swap) z5 }
