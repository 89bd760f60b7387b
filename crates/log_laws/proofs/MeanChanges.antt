-- Means of fractions: how a mean, and the mean over all pairs, change with the weights.
use Rattle.std.proofs.Common.{ℕ, zero, suc, ◌+◌, ◌*◌, ◌<◌, ◌≡◌, refl, sym, ap₂, subst, arith}
use lib.IntN.{pos}
use borrow.Author.Differences.{up, down}
use Rattle.log_laws.specs.Fraction.{Fraction, IsFraction, IsSame, sum_of, product_of, difference, whole}
use Rattle.log_laws.specs.Sums.{fraction_sum_below}
use Rattle.log_laws.proofs.Parts.{IsParts, parts_self, parts_sum, parts_product, parts_negated, parts_of_same, parts_respelled, same_of_parts, product_pos}

pub sum_fraction : (n : ℕ) (f : ℕ → Fraction) → ((i : ℕ) → i < n → IsFraction (f i)) → IsFraction (fraction_sum_below n f)
unfolding fraction_sum_below
sum_fraction zero f h = omega arith
sum_fraction (suc n) f h = product_pos (fraction_sum_below n f).den (f n).den (sum_fraction n f (λ i l. h i (omega (arith, l)))) (h n (omega arith))

abbrev pub mean : ℕ → (ℕ → Fraction) → (ℕ → Fraction) → Fraction
mean n x f = fraction_sum_below n (λ i. product_of (x i) (f i))

pub mean_fraction : (n : ℕ) (x f : ℕ → Fraction) → ((i : ℕ) → i < n → IsFraction (x i)) → ((i : ℕ) → i < n → IsFraction (f i)) → IsFraction (mean n x f)
mean_fraction n x f px pf = sum_fraction n (λ i. product_of (x i) (f i)) (λ i l. product_pos (x i).den (f i).den (px i l) (pf i l))

-- ---- the change of a mean
-- sum of f * (x - y) is the mean with x less that with y
pub change_of_mean : (n : ℕ) (f x y : ℕ → Fraction) → ((i : ℕ) → i < n → IsFraction (f i)) → ((i : ℕ) → i < n → IsFraction (x i)) → ((i : ℕ) → i < n → IsFraction (y i)) →
    IsSame (fraction_sum_below n (λ i. product_of (f i) (difference (x i) (y i))))
    (difference (fraction_sum_below n (λ i. product_of (x i) (f i))) (fraction_sum_below n (λ i. product_of (y i) (f i))))
unfolding fraction_sum_below
change_of_mean zero f x y pf px py = refl
change_of_mean (suc n) f x y pf px py =
    let S = fraction_sum_below n (λ i. product_of (f i) (difference (x i) (y i))) in
    let A = fraction_sum_below n (λ i. product_of (x i) (f i)) in
    let B = fraction_sum_below n (λ i. product_of (y i) (f i)) in
    let before = change_of_mean n f x y (λ i l. pf i (omega (arith, l))) (λ i l. px i (omega (arith, l))) (λ i l. py i (omega (arith, l))) in
    let pA = sum_fraction n (λ i. product_of (x i) (f i)) (λ i l. product_pos (x i).den (f i).den (px i (omega (arith, l))) (pf i (omega (arith, l)))) in
    let pB = sum_fraction n (λ i. product_of (y i) (f i)) (λ i l. product_pos (y i).den (f i).den (py i (omega (arith, l))) (pf i (omega (arith, l)))) in
    let pS = sum_fraction n (λ i. product_of (f i) (difference (x i) (y i))) (λ i l. product_pos (f i).den ((x i).den * (y i).den) (pf i (omega (arith, l))) (product_pos (x i).den (y i).den (px i (omega (arith, l))) (py i (omega (arith, l))))) in
    let xA = parts_self A.num A.den pA in
    let xB = parts_self B.num B.den pB in
    let xS = parts_of_same {f = difference A B} {g = S} pS (sym before) (parts_sum xA (parts_negated xB)) in
    let xf = parts_self (f n).num (f n).den (pf n (omega arith)) in
    let xx = parts_self (x n).num (x n).den (px n (omega arith)) in
    let xy = parts_self (y n).num (y n).den (py n (omega arith)) in
    same_of_parts (parts_sum xS (parts_product xf (parts_sum xx (parts_negated xy)))) (parts_sum (parts_sum xA (parts_product xx xf)) (parts_negated (parts_sum xB (parts_product xy xf))))
    (numbers (up A.num) (down A.num) A.den (up B.num) (down B.num) B.den (up (f n).num) (down (f n).num) (f n).den (up (x n).num) (down (x n).num) (x n).den (up (y n).num) (down (y n).num) (y n).den)
  where
    numbers : (ua va da ub vb db uf vf df ux vx dx uy vy dy : ℕ) → ((ua * db + vb * da) * (df * (dx * dy)) + (uf * (ux * dy + vy * dx) + vf * (vx * dy + uy * dx)) * (da * db)) * ((da * (dx * df)) * (db * (dy * df))) + ((va * (dx * df) + (ux * vf + vx * uf) * da) * (db * (dy * df)) + (ub * (dy * df) + (uy * uf + vy * vf) * db) * (da * (dx * df))) * ((da * db) * (df * (dx * dy))) ≡ ((ua * (dx * df) + (ux * uf + vx * vf) * da) * (db * (dy * df)) + (vb * (dy * df) + (uy * vf + vy * uf) * db) * (da * (dx * df))) * ((da * db) * (df * (dx * dy))) + ((va * db + ub * da) * (df * (dx * dy)) + (uf * (vx * dy + uy * dx) + vf * (ux * dy + vy * dx)) * (da * db)) * ((da * (dx * df)) * (db * (dy * df)))
    numbers ua va da ub vb db uf vf df ux vx dx uy vy dy = omega arith

-- ---- two sums change places
-- sum of m * (r + x * a)
row_apart : (n : ℕ) (m r a : ℕ → Fraction) (x : Fraction) → ((j : ℕ) → j < n → IsFraction (m j)) → ((j : ℕ) → j < n → IsFraction (r j)) → ((j : ℕ) → j < n → IsFraction (a j)) → IsFraction x →
    IsSame (mean n m (λ j. sum_of (r j) (product_of x (a j)))) (sum_of (mean n m r) (product_of x (mean n m a)))
unfolding fraction_sum_below
row_apart zero m r a x pm pr pa px =
    let z = parts_self (pos 0) 1 (omega arith) in
    same_of_parts z (parts_sum z (parts_product (parts_self x.num x.den px) z)) (numbers (up x.num) (down x.num) x.den)
  where
    numbers : (ux vx dx : ℕ) → 0 * (1 * (dx * 1)) + (0 * (dx * 1) + (ux * 0 + vx * 0) * 1) * 1 ≡ (0 * (dx * 1) + (ux * 0 + vx * 0) * 1) * 1 + 0 * (1 * (dx * 1))
    numbers ux vx dx = omega arith
row_apart (suc n) m r a x pm pr pa px =
    let S = mean n m (λ j. sum_of (r j) (product_of x (a j))) in
    let A = mean n m r in
    let B = mean n m a in
    let before = row_apart n m r a x (λ j l. pm j (omega (arith, l))) (λ j l. pr j (omega (arith, l))) (λ j l. pa j (omega (arith, l))) px in
    let pA = mean_fraction n m r (λ j l. pm j (omega (arith, l))) (λ j l. pr j (omega (arith, l))) in
    let pB = mean_fraction n m a (λ j l. pm j (omega (arith, l))) (λ j l. pa j (omega (arith, l))) in
    let pS = mean_fraction n m (λ j. sum_of (r j) (product_of x (a j))) (λ j l. pm j (omega (arith, l)))
    (λ j l. product_pos (r j).den (x.den * (a j).den) (pr j (omega (arith, l))) (product_pos x.den (a j).den px (pa j (omega (arith, l))))) in
    let xx = parts_self x.num x.den px in
    let xA = parts_self A.num A.den pA in
    let xB = parts_self B.num B.den pB in
    let xS = parts_of_same {f = sum_of A (product_of x B)} {g = S} pS (sym before) (parts_sum xA (parts_product xx xB)) in
    let xm = parts_self (m n).num (m n).den (pm n (omega arith)) in
    let xr = parts_self (r n).num (r n).den (pr n (omega arith)) in
    let xa = parts_self (a n).num (a n).den (pa n (omega arith)) in
    same_of_parts (parts_sum xS (parts_product xm (parts_sum xr (parts_product xx xa)))) (parts_sum (parts_sum xA (parts_product xm xr)) (parts_product xx (parts_sum xB (parts_product xm xa))))
    (numbers (up A.num) (down A.num) A.den (up B.num) (down B.num) B.den (up x.num) (down x.num) x.den (up (m n).num) (down (m n).num) (m n).den (up (r n).num) (down (r n).num) (r n).den (up (a n).num) (down (a n).num) (a n).den)
  where
    numbers : (ua va da ub vb db ux vx dx um vm dm ur vr dr uc vc dc : ℕ) → ((ua * (dx * db) + (ux * ub + vx * vb) * da) * (dm * (dr * (dx * dc))) + (um * (ur * (dx * dc) + (ux * uc + vx * vc) * dr) + vm * (vr * (dx * dc) + (ux * vc + vx * uc) * dr)) * (da * (dx * db))) * ((da * (dm * dr)) * (dx * (db * (dm * dc)))) + ((va * (dm * dr) + (um * vr + vm * ur) * da) * (dx * (db * (dm * dc))) + (ux * (vb * (dm * dc) + (um * vc + vm * uc) * db) + vx * (ub * (dm * dc) + (um * uc + vm * vc) * db)) * (da * (dm * dr))) * ((da * (dx * db)) * (dm * (dr * (dx * dc)))) ≡ ((ua * (dm * dr) + (um * ur + vm * vr) * da) * (dx * (db * (dm * dc))) + (ux * (ub * (dm * dc) + (um * uc + vm * vc) * db) + vx * (vb * (dm * dc) + (um * vc + vm * uc) * db)) * (da * (dm * dr))) * ((da * (dx * db)) * (dm * (dr * (dx * dc)))) + ((va * (dx * db) + (ux * vb + vx * ub) * da) * (dm * (dr * (dx * dc))) + (um * (vr * (dx * dc) + (ux * vc + vx * uc) * dr) + vm * (ur * (dx * dc) + (ux * uc + vx * vc) * dr)) * (da * (dx * db))) * ((da * (dm * dr)) * (dx * (db * (dm * dc))))
    numbers ua va da ub vb db ux vx dx um vm dm ur vr dr uc vc dc = omega arith

zero_row : (k : ℕ) (m : ℕ → Fraction) → ((j : ℕ) → j < k → IsFraction (m j)) → IsParts (mean k m (λ j. whole (pos 0))) 0 0 1
unfolding fraction_sum_below
zero_row zero m pm = parts_self (pos 0) 1 (omega arith)
zero_row (suc k) m pm =
    parts_respelled (parts_sum (zero_row k m (λ j l. pm j (omega (arith, l)))) (parts_product (parts_self (m k).num (m k).den (pm k (omega arith))) (parts_self (pos 0) 1 (omega arith)))) (omega arith)
    (numbers (up (m k).num) (down (m k).num) (m k).den)
  where
    numbers : (u v d : ℕ) → (0 * (d * 1) + (u * 0 + v * 0) * 1) * 1 + 0 * (1 * (d * 1)) ≡ 0 * (1 * (d * 1)) + (0 * (d * 1) + (u * 0 + v * 0) * 1) * 1
    numbers u v d = omega arith

-- the sum over i of x i times row i over m is that over j of m j times column j over x
pub places_changed : (n k : ℕ) (x m : ℕ → Fraction) (a : ℕ → ℕ → Fraction) → ((i : ℕ) → i < n → IsFraction (x i)) → ((j : ℕ) → j < k → IsFraction (m j)) → ((i j : ℕ) → i < n → j < k → IsFraction (a i j)) →
    IsSame (mean n x (λ i. mean k m (a i))) (mean k m (λ j. mean n x (λ i. a i j)))
unfolding fraction_sum_below
places_changed zero k x m a px pm pa = same_of_parts (parts_self (pos 0) 1 (omega arith)) (zero_row k m pm) refl
places_changed (suc n) k x m a px pm pa =
    let F = mean n x (λ i. mean k m (a i)) in
    let G = mean k m (λ j. mean n x (λ i. a i j)) in
    let row = mean k m (a n) in
    let px' = λ (i : ℕ) (l : i < n). px i (omega (arith, l)) in
    let pa' = λ (i j : ℕ) (l : i < n) (q : j < k). pa i j (omega (arith, l)) q in
    let pan = λ (j : ℕ) (q : j < k). pa n j (omega arith) q in
    let pcol = λ (j : ℕ) (q : j < k). mean_fraction n x (λ i. a i j) px' (λ i l. pa' i j l q) in
    let pF = mean_fraction n x (λ i. mean k m (a i)) px' (λ i l. mean_fraction k m (a i) pm (λ j q. pa' i j l q)) in
    let pG = mean_fraction k m (λ j. mean n x (λ i. a i j)) pm pcol in
    let prow = mean_fraction k m (a n) pm pan in
    let pxn = px n (omega arith) in
    let xF = parts_self F.num F.den pF in
    let xG = parts_of_same {f = F} {g = G} pG (places_changed n k x m a px' pm pa') xF in
    let term = parts_product (parts_self (x n).num (x n).den pxn) (parts_self row.num row.den prow) in
    let all = mean k m (λ j. sum_of (mean n x (λ i. a i j)) (product_of (x n) (a n j))) in
    let pall = mean_fraction k m (λ j. sum_of (mean n x (λ i. a i j)) (product_of (x n) (a n j))) pm
    (λ j q. product_pos (mean n x (λ i. a i j)).den ((x n).den * (a n j).den) (pcol j q) (product_pos (x n).den (a n j).den pxn (pan j q))) in
    let apart = row_apart k m (λ j. mean n x (λ i. a i j)) (a n) (x n) pm pcol pan pxn in
    same_of_parts (parts_sum xF term) (parts_of_same {f = sum_of G (product_of (x n) row)} {g = all} pall (sym apart) (parts_sum xG term)) refl

mean_as : (n : ℕ) (x f g : ℕ → Fraction) → ((i : ℕ) → f i ≡ g i) → mean n x f ≡ mean n x g
unfolding fraction_sum_below
mean_as zero x f g h = refl
mean_as (suc n) x f g h = ap₂ (λ (s t : Fraction). sum_of s (product_of (x n) t)) (mean_as n x f g h) (h n)

-- ---- the mean over all pairs
-- sum of (r + s) * (x - y)
pairs_apart : (n : ℕ) (r s x y : ℕ → Fraction) → ((i : ℕ) → i < n → IsFraction (r i)) → ((i : ℕ) → i < n → IsFraction (s i)) → ((i : ℕ) → i < n → IsFraction (x i)) → ((i : ℕ) → i < n → IsFraction (y i)) →
    IsSame (fraction_sum_below n (λ i. product_of (sum_of (r i) (s i)) (difference (x i) (y i))))
    (sum_of (difference (mean n x r) (mean n y s)) (difference (mean n x s) (mean n y r)))
unfolding fraction_sum_below
pairs_apart zero r s x y pr ps px py = refl
pairs_apart (suc n) r s x y pr ps px py =
    let S = fraction_sum_below n (λ i. product_of (sum_of (r i) (s i)) (difference (x i) (y i))) in
    let A = mean n x r in
    let B = mean n y s in
    let C = mean n x s in
    let D = mean n y r in
    let pr' = λ (i : ℕ) (l : i < n). pr i (omega (arith, l)) in
    let ps' = λ (i : ℕ) (l : i < n). ps i (omega (arith, l)) in
    let px' = λ (i : ℕ) (l : i < n). px i (omega (arith, l)) in
    let py' = λ (i : ℕ) (l : i < n). py i (omega (arith, l)) in
    let pS = sum_fraction n (λ i. product_of (sum_of (r i) (s i)) (difference (x i) (y i)))
    (λ i l. product_pos ((r i).den * (s i).den) ((x i).den * (y i).den) (product_pos (r i).den (s i).den (pr' i l) (ps' i l)) (product_pos (x i).den (y i).den (px' i l) (py' i l))) in
    let xA = parts_self A.num A.den (mean_fraction n x r px' pr') in
    let xB = parts_self B.num B.den (mean_fraction n y s py' ps') in
    let xC = parts_self C.num C.den (mean_fraction n x s px' ps') in
    let xD = parts_self D.num D.den (mean_fraction n y r py' pr') in
    let xS = parts_of_same {f = sum_of (difference A B) (difference C D)} {g = S} pS (sym (pairs_apart n r s x y pr' ps' px' py'))
    (parts_sum (parts_sum xA (parts_negated xB)) (parts_sum xC (parts_negated xD))) in
    let xr = parts_self (r n).num (r n).den (pr n (omega arith)) in
    let xs = parts_self (s n).num (s n).den (ps n (omega arith)) in
    let xx = parts_self (x n).num (x n).den (px n (omega arith)) in
    let xy = parts_self (y n).num (y n).den (py n (omega arith)) in
    same_of_parts (parts_sum xS (parts_product (parts_sum xr xs) (parts_sum xx (parts_negated xy))))
    (parts_sum (parts_sum (parts_sum xA (parts_product xx xr)) (parts_negated (parts_sum xB (parts_product xy xs)))) (parts_sum (parts_sum xC (parts_product xx xs)) (parts_negated (parts_sum xD (parts_product xy xr)))))
    (numbers (up A.num) (down A.num) A.den (up B.num) (down B.num) B.den (up C.num) (down C.num) C.den (up D.num) (down D.num) D.den
    (up (r n).num) (down (r n).num) (r n).den (up (s n).num) (down (s n).num) (s n).den (up (x n).num) (down (x n).num) (x n).den (up (y n).num) (down (y n).num) (y n).den)
  where
    numbers : (ua va da ub vb db uc vc dc ue ve de ur vr dr us vs ds ux vx dx um vm dm : ℕ) → (((ua * db + vb * da) * (dc * de) + (uc * de + ve * dc) * (da * db)) * ((dr * ds) * (dx * dm)) + ((ur * ds + us * dr) * (ux * dm + vm * dx) + (vr * ds + vs * dr) * (vx * dm + um * dx)) * ((da * db) * (dc * de))) * (((da * (dx * dr)) * (db * (dm * ds))) * ((dc * (dx * ds)) * (de * (dm * dr)))) + (((va * (dx * dr) + (ux * vr + vx * ur) * da) * (db * (dm * ds)) + (ub * (dm * ds) + (um * us + vm * vs) * db) * (da * (dx * dr))) * ((dc * (dx * ds)) * (de * (dm * dr))) + ((vc * (dx * ds) + (ux * vs + vx * us) * dc) * (de * (dm * dr)) + (ue * (dm * dr) + (um * ur + vm * vr) * de) * (dc * (dx * ds))) * ((da * (dx * dr)) * (db * (dm * ds)))) * (((da * db) * (dc * de)) * ((dr * ds) * (dx * dm))) ≡ (((ua * (dx * dr) + (ux * ur + vx * vr) * da) * (db * (dm * ds)) + (vb * (dm * ds) + (um * vs + vm * us) * db) * (da * (dx * dr))) * ((dc * (dx * ds)) * (de * (dm * dr))) + ((uc * (dx * ds) + (ux * us + vx * vs) * dc) * (de * (dm * dr)) + (ve * (dm * dr) + (um * vr + vm * ur) * de) * (dc * (dx * ds))) * ((da * (dx * dr)) * (db * (dm * ds)))) * (((da * db) * (dc * de)) * ((dr * ds) * (dx * dm))) + (((va * db + ub * da) * (dc * de) + (vc * de + ue * dc) * (da * db)) * ((dr * ds) * (dx * dm)) + ((ur * ds + us * dr) * (vx * dm + um * dx) + (vr * ds + vs * dr) * (ux * dm + vm * dx)) * ((da * db) * (dc * de))) * (((da * (dx * dr)) * (db * (dm * ds))) * ((dc * (dx * ds)) * (de * (dm * dr))))
    numbers ua va da ub vb db uc vc dc ue ve de ur vr dr us vs ds ux vx dx um vm dm = omega arith

abbrev pub pair_mean : ℕ → (ℕ → Fraction) → (ℕ → ℕ → Fraction) → Fraction
pair_mean n x a = mean n x (λ i. mean n x (a i))

-- the sum of row i over the point and over the centre
abbrev pub row_sum : ℕ → (ℕ → Fraction) → (ℕ → Fraction) → (ℕ → ℕ → Fraction) → ℕ → Fraction
row_sum n x y a i = sum_of (mean n x (a i)) (mean n y (a i))

pub change_of_pairs : (n : ℕ) (x y : ℕ → Fraction) (a : ℕ → ℕ → Fraction) → ((i : ℕ) → i < n → IsFraction (x i)) → ((i : ℕ) → i < n → IsFraction (y i)) → ((i j : ℕ) → i < n → j < n → IsFraction (a i j)) →
    ((i j : ℕ) → a i j ≡ a j i) → IsSame (fraction_sum_below n (λ i. product_of (row_sum n x y a i) (difference (x i) (y i)))) (difference (pair_mean n x a) (pair_mean n y a))
change_of_pairs n x y a px py pa either =
    let r = λ (i : ℕ). mean n x (a i) in
    let s = λ (i : ℕ). mean n y (a i) in
    let pr = λ (i : ℕ) (l : i < n). mean_fraction n x (a i) px (λ j q. pa i j l q) in
    let ps = λ (i : ℕ) (l : i < n). mean_fraction n y (a i) py (λ j q. pa i j l q) in
    let A = mean n x r in
    let B = mean n y s in
    let C = mean n x s in
    let D = mean n y r in
    let S = fraction_sum_below n (λ i. product_of (sum_of (r i) (s i)) (difference (x i) (y i))) in
    let turned : mean n y (λ j. mean n x (λ i. a i j)) ≡ D = mean_as n y (λ j. mean n x (λ i. a i j)) r (λ j. mean_as n x (λ i. a i j) (a j) (λ i. either i j)) in
    let crossed : IsSame C D = subst (λ (f : Fraction). IsSame C f) turned (places_changed n n x y a px py pa) in
    let pA = mean_fraction n x r px pr in
    let pB = mean_fraction n y s py ps in
    let pC = mean_fraction n x s px ps in
    let pD = mean_fraction n y r py pr in
    let pS = sum_fraction n (λ i. product_of (sum_of (r i) (s i)) (difference (x i) (y i)))
    (λ i l. product_pos ((r i).den * (s i).den) ((x i).den * (y i).den) (product_pos (r i).den (s i).den (pr i l) (ps i l)) (product_pos (x i).den (y i).den (px i l) (py i l))) in
    let xA = parts_self A.num A.den pA in
    let xB = parts_self B.num B.den pB in
    let xC = parts_self C.num C.den pC in
    let xD = parts_of_same {f = C} {g = D} pD crossed xC in
    let xS = parts_of_same {f = sum_of (difference A B) (difference C D)} {g = S} pS (sym (pairs_apart n r s x y pr ps px py))
    (parts_sum (parts_sum xA (parts_negated xB)) (parts_sum xC (parts_negated xD))) in
    same_of_parts xS (parts_sum xA (parts_negated xB)) (numbers (up A.num) (down A.num) A.den (up B.num) (down B.num) B.den (up C.num) (down C.num) C.den)
  where
    numbers : (ua va da ub vb db uc vc dc : ℕ) → ((ua * db + vb * da) * (dc * dc) + (uc * dc + vc * dc) * (da * db)) * (da * db) + (va * db + ub * da) * ((da * db) * (dc * dc)) ≡ (ua * db + vb * da) * ((da * db) * (dc * dc)) + ((va * db + ub * da) * (dc * dc) + (vc * dc + uc * dc) * (da * db)) * (da * db)
    numbers ua va da ub vb db uc vc dc = omega arith
