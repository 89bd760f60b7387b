-- Other spellings of means of fractions: of equal terms, lifted, and over all pairs row by row or either way round.
use Rattle.std.proofs.Common.{ℕ, ◌+◌, ◌*◌, ◌<◌, ◌≤◌, ◌≡◌, true, false, cond, nat_lt, zero, suc, refl, sym, ap, ap₂, ◌∙◌, arith, inl, inr, ℤ, pos, ◌+ℤ◌, ◌*ℤ◌}
use Rattle.std.proofs.Math.IntN.{zero-*ℤ}
use Rattle.std.proofs.lemmas.Bool.{cases_lt}
use borrow.Author.Differences.{up, down}
use Rattle.log_laws.specs.Fraction.{Fraction, IsFraction, IsSame, product_of, sum_of, whole}
use Rattle.log_laws.specs.Sums.{fraction_sum_below}
use Rattle.log_laws.proofs.MeanChanges.{mean, mean_fraction, pair_mean, sum_fraction}
use Rattle.log_laws.proofs.Parts.{parts_of_same, parts_product, parts_self, parts_sum, product_pos, same_of_parts}
use Rattle.log_laws.proofs.Ring.{add-mul_ℤ, mul_assoc_ℤ, mul_right_comm_ℤ}
use Rattle.log_laws.proofs.Spellings.{fraction_is}

-- ---- spellings
-- of equal terms
pub sum_as : (n : ℕ) (f g : ℕ → Fraction) → ((i : ℕ) → i < n → f i ≡ g i) → fraction_sum_below n f ≡ fraction_sum_below n g
unfolding fraction_sum_below
sum_as zero f g h = refl
sum_as (suc n) f g h = ap₂ (λ (a b : Fraction). sum_of a b) (sum_as n f g (λ i l. h i (omega (arith, l)))) (h n (omega arith))

-- lifted: times a whole number
sum_lifted : (s f : Fraction) (k : ℕ) → sum_of (product_of s (whole (pos k))) (product_of f (whole (pos k))) ≡ product_of (sum_of s f) (whole (pos k))
sum_lifted s f k =
    let e : f.den * 1 ≡ f.den = omega arith in
    let g : s.den * 1 ≡ s.den = omega arith in
    fraction_is ((s.num *ℤ pos k) *ℤ pos (f.den * 1) +ℤ (f.num *ℤ pos k) *ℤ pos (s.den * 1)) ((s.num *ℤ pos f.den +ℤ f.num *ℤ pos s.den) *ℤ pos k) (s.den * 1 * (f.den * 1)) (s.den * f.den * 1)
    (rw (e, g, add-mul_ℤ (s.num *ℤ pos f.den) (f.num *ℤ pos s.den) (pos k)) (ap₂ (λ (a b : ℤ). a +ℤ b) (mul_right_comm_ℤ s.num (pos f.den) (pos k)) (mul_right_comm_ℤ f.num (pos s.den) (pos k))))
    (omega arith)

terms_lifted : (n : ℕ) (f : ℕ → Fraction) (k : ℕ) → fraction_sum_below n (λ i. product_of (f i) (whole (pos k))) ≡ product_of (fraction_sum_below n f) (whole (pos k))
unfolding fraction_sum_below
terms_lifted zero f k = fraction_is (pos 0) (pos 0 *ℤ pos k) 1 1 (sym (zero-*ℤ (pos k))) refl
terms_lifted (suc n) f k =
    ap (λ (s : Fraction). sum_of s (product_of (f n) (whole (pos k)))) (terms_lifted n f k) ∙ sum_lifted (fraction_sum_below n f) (f n) k

times_lifted : (x f : Fraction) (k : ℕ) → product_of x (product_of f (whole (pos k))) ≡ product_of (product_of x f) (whole (pos k))
times_lifted x f k =
    fraction_is (x.num *ℤ (f.num *ℤ pos k)) ((x.num *ℤ f.num) *ℤ pos k) (x.den * (f.den * 1)) (x.den * f.den * 1) (sym (mul_assoc_ℤ x.num f.num (pos k))) (omega arith)

pub mean_lifted : (n : ℕ) (x f : ℕ → Fraction) (k : ℕ) → mean n x (λ i. product_of (f i) (whole (pos k))) ≡ product_of (mean n x f) (whole (pos k))
mean_lifted n x f k =
    sum_as n (λ i. product_of (x i) (product_of (f i) (whole (pos k)))) (λ i. product_of (product_of (x i) (f i)) (whole (pos k))) (λ i l. times_lifted (x i) (f i) k)
    ∙ terms_lifted n (λ i. product_of (x i) (f i)) k

pub pair_lifted : (n : ℕ) (x : ℕ → Fraction) (a : ℕ → ℕ → Fraction) (k : ℕ) → pair_mean n x (λ i j. product_of (a i j) (whole (pos k))) ≡ product_of (pair_mean n x a) (whole (pos k))
pair_lifted n x a k =
    sum_as n (λ i. product_of (x i) (mean n x (λ j. product_of (a i j) (whole (pos k))))) (λ i. product_of (x i) (product_of (mean n x (a i)) (whole (pos k))))
    (λ i l. ap (product_of (x i)) (mean_lifted n x (a i) k))
    ∙ mean_lifted n x (λ i. mean n x (a i)) k

-- ---- one row
-- y * (sum of x * a), from the sum of (y * x) * a
pub row_factored : (n : ℕ) (x a : ℕ → Fraction) (y : Fraction) → ((j : ℕ) → j < n → IsFraction (x j)) → ((j : ℕ) → j < n → IsFraction (a j)) → IsFraction y →
    IsSame (fraction_sum_below n (λ j. product_of (product_of y (x j)) (a j))) (product_of y (mean n x a))
unfolding fraction_sum_below
row_factored zero x a y px pa py =
    let z = parts_self (pos 0) 1 (omega arith) in
    same_of_parts z (parts_product (parts_self y.num y.den py) z) (numbers (up y.num) (down y.num) y.den)
  where
    numbers : (u v d : ℕ) → 0 * (d * 1) + (u * 0 + v * 0) * 1 ≡ (u * 0 + v * 0) * 1 + 0 * (d * 1)
    numbers u v d = omega arith
row_factored (suc n) x a y px pa py =
    let S = fraction_sum_below n (λ j. product_of (product_of y (x j)) (a j)) in
    let M = mean n x a in
    let before = row_factored n x a y (λ j l. px j (omega (arith, l))) (λ j l. pa j (omega (arith, l))) py in
    let pS = sum_fraction n (λ j. product_of (product_of y (x j)) (a j)) (λ j l. product_pos (y.den * (x j).den) (a j).den (product_pos y.den (x j).den py (px j (omega (arith, l)))) (pa j (omega (arith, l)))) in
    let pM = mean_fraction n x a (λ j l. px j (omega (arith, l))) (λ j l. pa j (omega (arith, l))) in
    let ym = parts_self y.num y.den py in
    let xM = parts_self M.num M.den pM in
    let xS = parts_of_same {f = product_of y M} {g = S} pS (sym before) (parts_product ym xM) in
    let xx = parts_self (x n).num (x n).den (px n (omega arith)) in
    let xa = parts_self (a n).num (a n).den (pa n (omega arith)) in
    same_of_parts (parts_sum xS (parts_product (parts_product ym xx) xa)) (parts_product ym (parts_sum xM (parts_product xx xa)))
    (numbers (up y.num) (down y.num) y.den (up M.num) (down M.num) M.den (up (x n).num) (down (x n).num) (x n).den (up (a n).num) (down (a n).num) (a n).den)
  where
    numbers : (uy vy dy um vm dm ux vx dx ua va da : ℕ) →
        ((uy * um + vy * vm) * (dy * dx * da) + ((uy * ux + vy * vx) * ua + (uy * vx + vy * ux) * va) * (dy * dm)) * (dy * (dm * (dx * da)))
        + (uy * (vm * (dx * da) + (ux * va + vx * ua) * dm) + vy * (um * (dx * da) + (ux * ua + vx * va) * dm)) * (dy * dm * (dy * dx * da))
        ≡ (uy * (um * (dx * da) + (ux * ua + vx * va) * dm) + vy * (vm * (dx * da) + (ux * va + vx * ua) * dm)) * (dy * dm * (dy * dx * da))
        + ((uy * vm + vy * um) * (dy * dx * da) + ((uy * ux + vy * vx) * va + (uy * vx + vy * ux) * ua) * (dy * dm)) * (dy * (dm * (dx * da)))
    numbers uy vy dy um vm dm ux vx dx ua va da = omega arith

-- the sum of a * (y + x) is those of x * a and of y * a
pub row_joined : (n : ℕ) (x y a : ℕ → Fraction) → ((j : ℕ) → j < n → IsFraction (x j)) → ((j : ℕ) → j < n → IsFraction (y j)) → ((j : ℕ) → j < n → IsFraction (a j)) →
    IsSame (fraction_sum_below n (λ j. product_of (a j) (sum_of (y j) (x j)))) (sum_of (mean n x a) (mean n y a))
unfolding fraction_sum_below
row_joined zero x y a px py pa = refl
row_joined (suc n) x y a px py pa =
    let S = fraction_sum_below n (λ j. product_of (a j) (sum_of (y j) (x j))) in
    let A = mean n x a in
    let B = mean n y a in
    let before = row_joined n x y a (λ j l. px j (omega (arith, l))) (λ j l. py j (omega (arith, l))) (λ j l. pa j (omega (arith, l))) in
    let pS = sum_fraction n (λ j. product_of (a j) (sum_of (y j) (x j))) (λ j l. product_pos (a j).den ((y j).den * (x j).den) (pa j (omega (arith, l))) (product_pos (y j).den (x j).den (py j (omega (arith, l))) (px j (omega (arith, l))))) in
    let xA = parts_self A.num A.den (mean_fraction n x a (λ j l. px j (omega (arith, l))) (λ j l. pa j (omega (arith, l)))) in
    let xB = parts_self B.num B.den (mean_fraction n y a (λ j l. py j (omega (arith, l))) (λ j l. pa j (omega (arith, l)))) in
    let xS = parts_of_same {f = sum_of A B} {g = S} pS (sym before) (parts_sum xA xB) in
    let xx = parts_self (x n).num (x n).den (px n (omega arith)) in
    let xy = parts_self (y n).num (y n).den (py n (omega arith)) in
    let xa = parts_self (a n).num (a n).den (pa n (omega arith)) in
    same_of_parts (parts_sum xS (parts_product xa (parts_sum xy xx))) (parts_sum (parts_sum xA (parts_product xx xa)) (parts_sum xB (parts_product xy xa)))
    (numbers (up A.num) (down A.num) A.den (up B.num) (down B.num) B.den (up (x n).num) (down (x n).num) (x n).den (up (y n).num) (down (y n).num) (y n).den (up (a n).num) (down (a n).num) (a n).den)
  where
    numbers : (uA vA dA uB vB dB ux vx dx uy vy dy ua va da : ℕ) →
        ((uA * dB + uB * dA) * (da * (dy * dx)) + (ua * (uy * dx + ux * dy) + va * (vy * dx + vx * dy)) * (dA * dB)) * (dA * (dx * da) * (dB * (dy * da)))
        + ((vA * (dx * da) + (ux * va + vx * ua) * dA) * (dB * (dy * da)) + (vB * (dy * da) + (uy * va + vy * ua) * dB) * (dA * (dx * da))) * (dA * dB * (da * (dy * dx)))
        ≡ ((uA * (dx * da) + (ux * ua + vx * va) * dA) * (dB * (dy * da)) + (uB * (dy * da) + (uy * ua + vy * va) * dB) * (dA * (dx * da))) * (dA * dB * (da * (dy * dx)))
        + ((vA * dB + vB * dA) * (da * (dy * dx)) + (ua * (vy * dx + vx * dy) + va * (uy * dx + ux * dy)) * (dA * dB)) * (dA * (dx * da) * (dB * (dy * da)))
    numbers uA vA dA uB vB dB ux vx dx uy vy dy ua va da = omega arith

-- ---- either way round
-- a of the lesser and the greater number
pub either : (ℕ → ℕ → Fraction) → ℕ → ℕ → Fraction
either a i j = cond (nat_lt i j) (a i j) (a j i)

either_less : (a : ℕ → ℕ → Fraction) (i j : ℕ) → i < j → either a i j ≡ a i j
unfolding either
either_less a i j h = rw (yes i j h) refl
  where
    yes : (i j : ℕ) → i < j → nat_lt i j ≡ true
    yes i j h = grind (arith, h)

either_more : (a : ℕ → ℕ → Fraction) (i j : ℕ) → j ≤ i → either a i j ≡ a j i
unfolding either
either_more a i j h = rw (no i j h) refl
  where
    no : (i j : ℕ) → j ≤ i → nat_lt i j ≡ false
    no i j h = grind (arith, h)

pub either_turned : (a : ℕ → ℕ → Fraction) (i j : ℕ) → either a i j ≡ either a j i
either_turned a i j = elim (cases_lt i j) [
  | inl l ↦ either_less a i j l ∙ sym (either_more a j i (omega (arith, l)))
  | inr l ↦ elim (cases_lt j i) [
    | inl k ↦ either_more a i j (omega (arith, k)) ∙ sym (either_less a j i k)
    | inr k ↦ let e : i ≡ j = omega (arith, k, l) in rw e refl
  ]
]

-- it is a, where a is the same either way round
pub either_is : (a : ℕ → ℕ → Fraction) (i j : ℕ) → a i j ≡ a j i → either a i j ≡ a i j
either_is a i j e = elim (cases_lt i j) [ inl l ↦ either_less a i j l | inr l ↦ either_more a i j l ∙ sym e ]

pub mean_either : (n : ℕ) (x : ℕ → Fraction) (a : ℕ → ℕ → Fraction) (i : ℕ) → i < n → ((i j : ℕ) → i < n → j < n → a i j ≡ a j i) → mean n x (either a i) ≡ mean n x (a i)
mean_either n x a i l h = sum_as n (λ j. product_of (x j) (either a i j)) (λ j. product_of (x j) (a i j)) (λ j k. ap (product_of (x j)) (either_is a i j (h i j l k)))

pub pairs_either : (n : ℕ) (x : ℕ → Fraction) (a : ℕ → ℕ → Fraction) → ((i j : ℕ) → i < n → j < n → a i j ≡ a j i) → pair_mean n x (either a) ≡ pair_mean n x a
pairs_either n x a h = sum_as n (λ i. product_of (x i) (mean n x (either a i))) (λ i. product_of (x i) (mean n x (a i))) (λ i l. ap (product_of (x i)) (mean_either n x a i l h))
