-- Spellings that are one log sum: scaled twice, the opposite of the opposite, of a sum and of a multiple.
use Rattle.std.proofs.Common.{ℕ, ◌*◌, ◌≡◌, refl, sym, ap, ap₂, ◌∙◌, List, [], ◌∷◌, ◌++◌, arith}
use Rattle.std.proofs.Math.Nat.{mul_assoc, mul_comm}
use Rattle.std.proofs.Math.IntN.{*ℤ_comm, neg_ℤ-neg_ℤ}
use Rattle.std.proofs.lemmas.Int.{ints}
use lib.IntN.{ℤ, pos, neg_ℤ, ◌+ℤ◌, ◌*ℤ◌}
use Rattle.log_laws.specs.Fraction.{Fraction, sum_of, negated, difference, product_of}
use Rattle.log_laws.specs.LogSum.{Term, LogSum, added, scaled, scaled_terms, opposite, opposite_terms}
use Rattle.log_laws.proofs.Ring.{neg-mul, mul-neg, mul_assoc_ℤ}
use Rattle.log_laws.proofs.Steps.{term}
use Rattle.log_laws.proofs.Sums.{negated-sum_of}

-- ---- fractions
pub fraction_is : (z w : ℤ) (d e : ℕ) → z ≡ w → d ≡ e → let f : Fraction = record { num = z; den = d } in let g : Fraction = record { num = w; den = e } in f ≡ g
fraction_is z w d e p q = ap₂ (λ (z : ℤ) (d : ℕ). let r : Fraction = record { num = z; den = d } in r) p q

pub product-negated : (c f : Fraction) → product_of c (negated f) ≡ negated (product_of c f)
product-negated c f = fraction_is (c.num *ℤ neg_ℤ f.num) (neg_ℤ (c.num *ℤ f.num)) (c.den * f.den) (c.den * f.den) (mul-neg c.num f.num) refl

pub product_of_comm : (f g : Fraction) → product_of f g ≡ product_of g f
product_of_comm f g = fraction_is (f.num *ℤ g.num) (g.num *ℤ f.num) (f.den * g.den) (g.den * f.den) (*ℤ_comm f.num g.num) (mul_comm f.den g.den)

pub difference_turned : (x y : Fraction) → difference x y ≡ negated (difference y x)
difference_turned x y =
    fraction_is (x.num *ℤ pos y.den +ℤ neg_ℤ y.num *ℤ pos x.den) (neg_ℤ (y.num *ℤ pos x.den +ℤ neg_ℤ x.num *ℤ pos y.den)) (x.den * y.den) (y.den * x.den)
    (rw (neg-mul y.num (pos x.den), neg-mul x.num (pos y.den)) (omega (arith, ints))) (mul_comm x.den y.den)

-- ---- terms
pub scaled-opposite_terms : (c : Fraction) (ts : List Term) → scaled_terms c (opposite_terms ts) ≡ scaled_terms (negated c) ts
scaled-opposite_terms c [] = refl
scaled-opposite_terms c (t ∷ ts) =
    ap₂ (λ (f : Fraction) (us : List Term). term f t.argument ∷ us)
    (fraction_is (c.num *ℤ neg_ℤ t.factor.num) (neg_ℤ c.num *ℤ t.factor.num) (c.den * t.factor.den) (c.den * t.factor.den) (mul-neg c.num t.factor.num ∙ sym (neg-mul c.num t.factor.num)) refl)
    (scaled-opposite_terms c ts)

pub opposite-scaled_terms : (c : Fraction) (ts : List Term) → opposite_terms (scaled_terms c ts) ≡ scaled_terms (negated c) ts
opposite-scaled_terms c [] = refl
opposite-scaled_terms c (t ∷ ts) =
    ap₂ (λ (f : Fraction) (us : List Term). term f t.argument ∷ us)
    (fraction_is (neg_ℤ (c.num *ℤ t.factor.num)) (neg_ℤ c.num *ℤ t.factor.num) (c.den * t.factor.den) (c.den * t.factor.den) (sym (neg-mul c.num t.factor.num)) refl)
    (opposite-scaled_terms c ts)

pub scaled-scaled_terms : (a b : Fraction) (ts : List Term) → scaled_terms a (scaled_terms b ts) ≡ scaled_terms (product_of a b) ts
scaled-scaled_terms a b [] = refl
scaled-scaled_terms a b (t ∷ ts) =
    ap₂ (λ (f : Fraction) (us : List Term). term f t.argument ∷ us)
    (fraction_is (a.num *ℤ (b.num *ℤ t.factor.num)) (a.num *ℤ b.num *ℤ t.factor.num) (a.den * (b.den * t.factor.den)) (a.den * b.den * t.factor.den)
    (sym (mul_assoc_ℤ a.num b.num t.factor.num)) (sym (mul_assoc a.den b.den t.factor.den)))
    (scaled-scaled_terms a b ts)

opposite-opposite_terms : (ts : List Term) → opposite_terms (opposite_terms ts) ≡ ts
opposite-opposite_terms [] = refl
opposite-opposite_terms (t ∷ ts) =
    ap₂ (λ (f : Fraction) (us : List Term). term f t.argument ∷ us)
    (fraction_is (neg_ℤ (neg_ℤ t.factor.num)) t.factor.num t.factor.den t.factor.den (neg_ℤ-neg_ℤ t.factor.num) refl)
    (opposite-opposite_terms ts)

pub scaled-append : (c : Fraction) (ts us : List Term) → scaled_terms c (ts ++ us) ≡ scaled_terms c ts ++ scaled_terms c us
scaled-append c [] us = refl
scaled-append c (t ∷ ts) us = ap (λ (vs : List Term). term (product_of c t.factor) t.argument ∷ vs) (scaled-append c ts us)

opposite-append : (ts us : List Term) → opposite_terms (ts ++ us) ≡ opposite_terms ts ++ opposite_terms us
opposite-append [] us = refl
opposite-append (t ∷ ts) us = ap (λ (vs : List Term). term (negated t.factor) t.argument ∷ vs) (opposite-append ts us)

-- ---- log sums
log_sum_is : (ts us : List Term) (f g : Fraction) → ts ≡ us → f ≡ g → let s : LogSum = record { terms = ts; rest = f } in let t : LogSum = record { terms = us; rest = g } in s ≡ t
log_sum_is ts us f g p q = ap₂ (λ (ts : List Term) (r : Fraction). let l : LogSum = record { terms = ts; rest = r } in l) p q

pub opposite-opposite : (s : LogSum) → opposite (opposite s) ≡ s
opposite-opposite s =
    log_sum_is (opposite_terms (opposite_terms s.terms)) s.terms (negated (negated s.rest)) s.rest
    (opposite-opposite_terms s.terms) (fraction_is (neg_ℤ (neg_ℤ s.rest.num)) s.rest.num s.rest.den s.rest.den (neg_ℤ-neg_ℤ s.rest.num) refl)

pub opposite-added : (s t : LogSum) → opposite (added s t) ≡ added (opposite s) (opposite t)
opposite-added s t =
    log_sum_is (opposite_terms (s.terms ++ t.terms)) (opposite_terms s.terms ++ opposite_terms t.terms) (negated (sum_of s.rest t.rest)) (sum_of (negated s.rest) (negated t.rest))
    (opposite-append s.terms t.terms) (sym (negated-sum_of s.rest t.rest))

pub scaled-opposite : (c : Fraction) (s : LogSum) → scaled c (opposite s) ≡ opposite (scaled c s)
scaled-opposite c s =
    log_sum_is (scaled_terms c (opposite_terms s.terms)) (opposite_terms (scaled_terms c s.terms)) (product_of c (negated s.rest)) (negated (product_of c s.rest))
    (scaled-opposite_terms c s.terms ∙ sym (opposite-scaled_terms c s.terms))
    (fraction_is (c.num *ℤ neg_ℤ s.rest.num) (neg_ℤ (c.num *ℤ s.rest.num)) (c.den * s.rest.den) (c.den * s.rest.den) (mul-neg c.num s.rest.num) refl)

pub negated-scaled : (c : Fraction) (s : LogSum) → scaled (negated c) s ≡ opposite (scaled c s)
negated-scaled c s =
    log_sum_is (scaled_terms (negated c) s.terms) (opposite_terms (scaled_terms c s.terms)) (product_of (negated c) s.rest) (negated (product_of c s.rest))
    (sym (opposite-scaled_terms c s.terms))
    (fraction_is (neg_ℤ c.num *ℤ s.rest.num) (neg_ℤ (c.num *ℤ s.rest.num)) (c.den * s.rest.den) (c.den * s.rest.den) (neg-mul c.num s.rest.num) refl)
