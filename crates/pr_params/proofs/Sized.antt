-- How large the numbers of a case are over a box: what the bounds of energies need to know.
use Rattle.std.proofs.Common.{ℕ, zero, suc, ◌+◌, ◌*◌, ◌^◌, ◌<◌, ◌≤◌, ◌≡◌, nat_le, IsTrue, refl, ap, ◌∙◌, arith, lit<, List, pos, ◌*ℤ◌, ◌≤ℤ◌, slice_index}
use Rattle.std.proofs.lemmas.Int.{ints}
use Rattle.std.proofs.lemmas.Nat.{pow-add}
use borrow.Author.Differences.{le_out}
use Rattle.log_laws.specs.Between.{Ends, IsBetween}
use Rattle.log_laws.specs.Fraction.{Fraction, IsFraction, product_of}
use Rattle.log_laws.specs.LogSum.{IsPositive}
use Rattle.log_laws.proofs.Exports.{product_pos, le_of_mul-le_ℤ, ≤ℤ_trans, all_below-at, by_natural}
use Rattle.case_types.specs.declared.cases.Case.{Case}
use Rattle.case_types.specs.Arithmetic.Bounds.{Box, covolume_range}
use Rattle.case_types.specs.Arithmetic.Numbers.{Numbers, numbers_of}
use Rattle.case_types.specs.Ranges.{is_each_up_to, is_each_at_most}
use Rattle.case_types.specs.Energy.Divisions.{State, moles, mole_fraction, mean_attraction}
use Rattle.case_types.specs.Arithmetic.Holding.{HoldsParameters}
use Rattle.case_types.specs.Energy.Instances.{Instance}
use Rattle.case_types.specs.Energy.Parameters.{attraction}
use Rattle.log_laws.specs.Sums.{fraction_sum_below}
use Rattle.pr_params.proofs.Argument.{positive_between}
use Rattle.pr_params.proofs.Lambda.{two_ends}

-- the ends of the logarithm of e
abbrev pub e_ends : Ends
e_ends = record { lo = pos 1586259924992; hi = pos 1586260020565 }

-- the numbers count n components, and so large are the ends over the box
pub record IsSized (n : ℕ) (p : Numbers) (box : Box) : Type 0 where
  pub count : p.count ≡ n
  pub root_two : p.root_two ≡ two_ends
  pub log_e : p.log_e ≡ e_ends
  pub lift : p.lift ≤ 29
  pub covolume_low : pos (2 ^ 50) ≤ℤ (covolume_range p box).lo
  pub covolume_high : (covolume_range p box).hi ≤ℤ pos (2 ^ 61)
  pub fractions : (i : ℕ) → i < n → slice_index box.hi i ≤ 2 ^ 40

-- the numbers count the components of their case
pub count_of : (c : Case) → (numbers_of c).count ≡ c.n
unfolding numbers_of
count_of c = refl

-- ---- scales and fractions
-- the scale of the covolume over that of the packings
pub scale_split : (l : ℕ) → 2 ^ (56 + l) ≡ 2 ^ 40 * 2 ^ (16 + l)
scale_split l = let k : 56 + l ≡ 40 + (16 + l) = omega arith in ap (λ (x : ℕ). 2 ^ x) k ∙ pow-add 2 40 (16 + l)

-- each entry is at most the limit
pub each_up_to : (n : ℕ) (xs : List ℕ) (limit : ℕ) → IsTrue (is_each_up_to n xs limit) → (i : ℕ) → i < n → slice_index xs i ≤ limit
each_up_to n xs limit h i l = at_most (slice_index xs i) limit (all_below-at n (λ i. nat_le (slice_index xs i) limit) i l h)
  where
    at_most : (a b : ℕ) → IsTrue (nat_le a b) → a ≤ b
    at_most a b h = grind (arith, h)

-- each entry is at most that of the other list
pub each_at_most : (n : ℕ) (xs ys : List ℕ) → IsTrue (is_each_at_most n xs ys) → (i : ℕ) → i < n → slice_index xs i ≤ slice_index ys i
each_at_most n xs ys h i l = at_most (slice_index xs i) (slice_index ys i) (all_below-at n (λ i. nat_le (slice_index xs i) (slice_index ys i)) i l h)
  where
    at_most : (a b : ℕ) → IsTrue (nat_le a b) → a ≤ b
    at_most a b h = grind (arith, h)

-- ---- ends in order
-- ends with a fraction between them
pub ends_ordered : (v : Ends) (scale : ℕ) (f : Fraction) → IsBetween v scale f → v.lo ≤ℤ v.hi
ends_ordered v scale f b = le_of_mul-le_ℤ v.lo v.hi f.den b.is_fraction (≤ℤ_trans (v.lo *ℤ pos f.den) (f.num *ℤ pos scale) (v.hi *ℤ pos f.den) b.above b.below)

-- the ends of what lies between them, apart
pub between_apart : (v : Ends) (scale : ℕ) (f : Fraction) → IsBetween v scale f → IsBetween (record { lo = v.lo; hi = v.hi }) scale f
between_apart v scale f b = record { is_fraction = b.is_fraction; above = b.above; below = b.below }

-- an end of 2 ^ 50 at least is natural, and what lies above it is positive
pub covolume_positive : (v : Ends) (scale : ℕ) (b : Fraction) → pos (2 ^ 50) ≤ℤ v.lo → IsBetween v scale b → IsPositive b
covolume_positive v scale b low hold =
    by_natural (λ z. pos (2 ^ 50) ≤ℤ z → IsBetween (record { lo = z; hi = v.hi }) scale b → IsPositive b) v.lo (omega (arith, ints, low))
    (λ l low hold. positive_between l scale v.hi b (let q = le_out (pos (2 ^ 50)) (pos l) low in omega (arith, q)) hold) low (between_apart v scale b hold)

-- ---- the means
-- a sum of fractions is a fraction
sum_is_fraction : (n : ℕ) (f : ℕ → Fraction) → ((i : ℕ) → i < n → IsFraction (f i)) → IsFraction (fraction_sum_below n f)
unfolding fraction_sum_below
sum_is_fraction zero f h = lit< tt
sum_is_fraction (suc n) f h = product_pos (fraction_sum_below n f).den (f n).den (sum_is_fraction n f (λ i l. h i (omega (arith, l)))) (h n (omega arith))

pub mean_attraction_is_fraction : (c : Case) (p : Numbers) (x : Instance) (f : State) → HoldsParameters c p x → 0 < moles c.n f → IsFraction (mean_attraction c x f)
mean_attraction_is_fraction c p x f holds some =
    sum_is_fraction c.n (λ i. product_of (mole_fraction c.n f i) (fraction_sum_below c.n (λ j. product_of (mole_fraction c.n f j) (attraction c x i j))))
    (λ i l. product_pos (moles c.n f) (fraction_sum_below c.n (λ j. product_of (mole_fraction c.n f j) (attraction c x i j))).den some
    (sum_is_fraction c.n (λ j. product_of (mole_fraction c.n f j) (attraction c x i j))
    (λ j k. product_pos (moles c.n f) (attraction c x i j).den some (holds.attraction i j l k).is_fraction)))
