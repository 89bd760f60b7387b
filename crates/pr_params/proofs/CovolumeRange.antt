-- The range of the mean co-volume over a box holds the mean of every composition in it, for any number of components.
use Rattle.std.proofs.Common.{◌≡◌, ℕ, zero, suc, ◌+◌, ◌-◌, ◌*◌, ◌<◌, ◌≤◌, sym, subst, arith, ℤ, pos, negsuc, ◌-ℤ◌, ◌*ℤ◌, ◌≤ℤ◌, List, refl, lit<, slice_index, cond, nat_lt, inl, inr}
use Rattle.std.specs.Int.{int_min, int_max}
use Rattle.std.proofs.lemmas.Bool.{cases_lt, lt-ltb, le-ltb}
use Rattle.std.proofs.lemmas.Int.{ints}
use Rattle.std.proofs.Math.Nat.{mul-le-mul_right}
use Rattle.log_laws.specs.Between.{Ends, IsBetween}
use Rattle.log_laws.specs.Fraction.{Fraction, whole}
use Rattle.log_laws.specs.Sums.{sum_below, int_sum_below, least_below, greatest_below}
use Rattle.log_laws.specs.Whole.{positive_part}
use Rattle.log_laws.specs.Linear.{affine_low, affine_high}
use Rattle.log_laws.proofs.Exports.{≤ℤ_trans, sum_below-scaled_same, least-le, le-greatest, ArePartsBetween, affine_above, affine_below}
use Rattle.case_types.specs.Arithmetic.Bounds.{Box, one, covolume_range}
use Rattle.case_types.specs.Arithmetic.Numbers.{Numbers}
use Rattle.case_types.specs.Arithmetic.Tables.{ends_at}
use Rattle.pr_params.proofs.Sized.{ends_ordered}
use Rattle.pr_params.proofs.Weighted.{IsOver, IsUnder, mean_by, mean_over, mean_under, over_less, under_greater}
use Rattle.pr_params.proofs.Spread.{of_lesser, of_greater, below_all, above_all}

-- ---- ends that aren't negative
pub natural_is : (z : ℤ) → pos 0 ≤ℤ z → z ≡ pos (positive_part z)
natural_is (pos n) h = refl
natural_is (negsuc n) h = absurd (omega (arith, ints, h))

pub over_end : (v : Ends) (s : ℕ) (f : Fraction) → pos 0 ≤ℤ v.lo → IsBetween v s f → IsOver (positive_part v.lo) s f
over_end v s f h b = record { is_fraction = b.is_fraction; is = rw (natural_is v.lo h) at b.above }

pub under_end : (v : Ends) (s : ℕ) (f : Fraction) → pos 0 ≤ℤ v.hi → IsBetween v s f → IsUnder (positive_part v.hi) s f
under_end v s f h b = record { is_fraction = b.is_fraction; is = rw (natural_is v.hi h) at b.below }

-- the parts of a component lie between ends of the box
pub record IsInEnds (a b p m : ℕ) : Type 0 where
  pub above : a * m ≤ p * one
  pub below : p * one ≤ b * m

-- a weighed sum of numbers that aren't negative is one of natural numbers
naturals_sum : (k : ℕ) (v : ℕ → ℤ) (l parts : ℕ → ℕ) → ((i : ℕ) → i < k → v i ≡ pos (l i)) →
    int_sum_below k (λ i. v i *ℤ pos (parts i)) ≡ pos (sum_below k (λ i. parts i * l i))
unfolding int_sum_below
naturals_sum zero v l parts h = refl
naturals_sum (suc k) v l parts h =
    let before = naturals_sum k v l parts (λ i less. h i (omega (arith, less))) in
    rw (before, h k (omega arith)) (omega (arith, ints))

-- ---- the range of the first n components
abbrev pub low_by : ℕ → List Ends → Box → ℤ
low_by rest b x =
    affine_low rest (ends_at b rest).lo (λ i. (ends_at b i).lo -ℤ (ends_at b rest).hi) (slice_index x.lo) (slice_index x.hi)

abbrev pub high_by : ℕ → List Ends → Box → ℤ
high_by rest b x =
    affine_high rest (ends_at b rest).hi (λ i. (ends_at b i).hi -ℤ (ends_at b rest).lo) (slice_index x.lo) (slice_index x.hi)

abbrev pub range_by : ℕ → ℕ → List Ends → Box → Ends
range_by n rest b x =
    let first = ends_at b 0 in
    record {
      lo = int_max (least_below n (λ i. (ends_at b i).lo) first.lo) (low_by rest b x);
      hi = int_min (greatest_below n (λ i. (ends_at b i).hi) first.hi) (high_by rest b x);
    }

-- ends that aren't negative hold a fraction
pub record HoldsNatural (v : Ends) (s : ℕ) (f : Fraction) : Type 0 where
  pub low : pos 0 ≤ℤ v.lo
  pub held : IsBetween v s f

pub high_of : (v : Ends) (s : ℕ) (f : Fraction) → HoldsNatural v s f → pos 0 ≤ℤ v.hi
high_of v s f h = ≤ℤ_trans _ _ _ h.low (ends_ordered v s f h.held)

-- what the parts of a composition in the box have of the first n ends
pub record AreInBox (n : ℕ) (x : Box) (parts : ℕ → ℕ) (m : ℕ) : Type 0 where
  pub some : 0 < m
  pub all : m ≡ sum_below n parts
  pub inside : (i : ℕ) → i < n → IsInEnds (slice_index x.lo i) (slice_index x.hi i) (parts i) m

-- the same of the free fractions alone
pub record AreFree (rest : ℕ) (x : Box) (parts : ℕ → ℕ) (m : ℕ) : Type 0 where
  pub some : 0 < m
  pub all : m ≡ sum_below (suc rest) parts
  pub inside : (i : ℕ) → i < rest → IsInEnds (slice_index x.lo i) (slice_index x.hi i) (parts i) m

between_ends : (rest : ℕ) (x : Box) (parts : ℕ → ℕ) (m : ℕ) → AreFree rest x parts m → ArePartsBetween rest (slice_index x.lo) (slice_index x.hi) parts m
between_ends rest x parts m box = record { all = box.all; above = λ i h. (box.inside i h).above; below = λ i h. (box.inside i h).below }

-- the same number, as an order
same_at_most : (a z : ℤ) → a ≡ z → a ≤ℤ z
same_at_most a z e = omega (arith, ints, e)

range_above : (r : ℕ) (b : List Ends) (x : Box) (parts : ℕ → ℕ) (m s : ℕ) (f : ℕ → Fraction) → 0 < s → AreFree r x parts m
    → ((i : ℕ) → i < suc r → HoldsNatural (ends_at b i) s (f i))
    → ((range_by (suc r) r b x).lo *ℤ pos (mean_by (suc r) m parts f).den) ≤ℤ ((mean_by (suc r) m parts f).num *ℤ pos s)
range_above r b x parts m s f hs box h =
    let l : ℕ → ℕ = λ i. positive_part (ends_at b i).lo in
    let mean = mean_by (suc r) m parts f in
    let sum = sum_below (suc r) (λ i. parts i * l i) in
    let over = mean_over (suc r) m s parts l f box.some hs (λ i k. over_end (ends_at b i) s (f i) (h i k).low (h i k).held) in
    let least = least_below (suc r) (λ i. (ends_at b i).lo) (ends_at b 0).lo in
    let by_least : (least *ℤ pos m) ≤ℤ pos sum =
    subst (λ (k : ℕ). (least *ℤ pos k) ≤ℤ pos sum) (sym box.all)
    (below_all (suc r) parts l least
    (λ i k. ≤ℤ_trans _ _ _ (least-le (suc r) i (λ j. (ends_at b j).lo) (ends_at b 0).lo k)
    (same_at_most (ends_at b i).lo (pos (l i)) (natural_is (ends_at b i).lo (h i k).low)))) in
    let last = h r (omega arith) in
    let ordered = ends_ordered (ends_at b r) s (f r) last.held in
    let below = affine_below r (ends_at b r).lo (λ i. (ends_at b i).lo -ℤ (ends_at b r).hi) (λ i. (ends_at b i).lo) (slice_index x.lo) (slice_index x.hi) parts m
    (between_ends r x parts m box) (λ i k. omega (arith, ints, ordered)) (omega (arith, ints)) in
    let by_rest : (low_by r b x *ℤ pos m) ≤ℤ pos sum =
    rw (naturals_sum (suc r) (λ i. (ends_at b i).lo) l parts (λ i k. natural_is (ends_at b i).lo (h i k).low)) at below in
    of_greater (λ z. (z *ℤ pos mean.den) ≤ℤ (mean.num *ℤ pos s)) least (low_by r b x)
    (over_less least sum m s mean box.some by_least over)
    (over_less (low_by r b x) sum m s mean box.some by_rest over)

-- the sum of the upper ends by the parts is at most that of the range's upper end
sum_in_range : (r : ℕ) (b : List Ends) (x : Box) (parts : ℕ → ℕ) (m : ℕ) → AreFree r x parts m → ((i : ℕ) → i < suc r → pos 0 ≤ℤ (ends_at b i).hi)
    → (ends_at b r).lo ≤ℤ (ends_at b r).hi
    → pos (sum_below (suc r) (λ i. parts i * positive_part (ends_at b i).hi)) ≤ℤ ((range_by (suc r) r b x).hi *ℤ pos m)
sum_in_range r b x parts m box high ordered =
    let l : ℕ → ℕ = λ i. positive_part (ends_at b i).hi in
    let sum = sum_below (suc r) (λ i. parts i * l i) in
    let natural : (i : ℕ) → i < suc r → (ends_at b i).hi ≡ pos (l i) = λ i k. natural_is (ends_at b i).hi (high i k) in
    let greatest = greatest_below (suc r) (λ i. (ends_at b i).hi) (ends_at b 0).hi in
    let by_greatest : pos sum ≤ℤ (greatest *ℤ pos m) =
    subst (λ (k : ℕ). pos sum ≤ℤ (greatest *ℤ pos k)) (sym box.all)
    (above_all (suc r) parts l greatest
    (λ i k. ≤ℤ_trans _ _ _ (same_at_most (pos (l i)) (ends_at b i).hi (sym (natural i k)))
    (le-greatest (suc r) i (λ j. (ends_at b j).hi) (ends_at b 0).hi k))) in
    let above = affine_above r (ends_at b r).hi (λ i. (ends_at b i).hi -ℤ (ends_at b r).lo) (λ i. (ends_at b i).hi) (slice_index x.lo) (slice_index x.hi) parts m
    (between_ends r x parts m box) (λ i k. omega (arith, ints, ordered)) (omega (arith, ints)) in
    let by_rest : pos sum ≤ℤ (high_by r b x *ℤ pos m) =
    rw (naturals_sum (suc r) (λ i. (ends_at b i).hi) l parts natural) at above in
    of_lesser (λ z. pos sum ≤ℤ (z *ℤ pos m)) greatest (high_by r b x) by_greatest by_rest

range_below : (r : ℕ) (b : List Ends) (x : Box) (parts : ℕ → ℕ) (m s : ℕ) (f : ℕ → Fraction) → 0 < s → AreFree r x parts m
    → ((i : ℕ) → i < suc r → HoldsNatural (ends_at b i) s (f i))
    → ((mean_by (suc r) m parts f).num *ℤ pos s) ≤ℤ ((range_by (suc r) r b x).hi *ℤ pos (mean_by (suc r) m parts f).den)
range_below r b x parts m s f hs box h =
    let l : ℕ → ℕ = λ i. positive_part (ends_at b i).hi in
    let high : (i : ℕ) → i < suc r → pos 0 ≤ℤ (ends_at b i).hi = λ i k. high_of (ends_at b i) s (f i) (h i k) in
    let under = mean_under (suc r) m s parts l f box.some hs (λ i k. under_end (ends_at b i) s (f i) (high i k) (h i k).held) in
    let last = h r (omega arith) in
    under_greater (range_by (suc r) r b x).hi (sum_below (suc r) (λ i. parts i * l i)) m s (mean_by (suc r) m parts f) box.some
    (sum_in_range r b x parts m box high (ends_ordered (ends_at b r) s (f r) last.held)) under

range_free : (r : ℕ) (b : List Ends) (x : Box) (parts : ℕ → ℕ) (m s : ℕ) (f : ℕ → Fraction) → 0 < s → AreFree r x parts m
    → ((i : ℕ) → i < suc r → HoldsNatural (ends_at b i) s (f i)) → IsBetween (range_by (suc r) r b x) s (mean_by (suc r) m parts f)
range_free r b x parts m s f hs box h = record {
  is_fraction = (mean_over (suc r) m s parts (λ i. positive_part (ends_at b i).lo) f box.some hs
      (λ i k. over_end (ends_at b i) s (f i) (h i k).low (h i k).held)).is_fraction;
  above = range_above r b x parts m s f hs box h;
  below = range_below r b x parts m s f hs box h;
}

range_at : (n rest : ℕ) (b : List Ends) (x : Box) (parts : ℕ → ℕ) (m s : ℕ) (f : ℕ → Fraction) → n ≡ suc rest → 0 < s → AreInBox n x parts m
    → ((i : ℕ) → i < n → HoldsNatural (ends_at b i) s (f i)) → IsBetween (range_by n rest b x) s (mean_by n m parts f)
range_at zero r b x parts m s f is hs box h = absurd (omega (arith, is))
range_at (suc n) r b x parts m s f is hs box h =
    let same : n ≡ r = omega (arith, is) in
    subst (λ (k : ℕ). IsBetween (range_by (suc n) k b x) s (mean_by (suc n) m parts f)) same
    (range_free n b x parts m s f hs (record { some = box.some; all = box.all; inside = λ i k. box.inside i (omega (arith, k)) }) h)

pub range_holds : (n : ℕ) (q : Numbers) (x : Box) (parts : ℕ → ℕ) (m s : ℕ) (f : ℕ → Fraction) → q.count ≡ n → 0 < n → 0 < s → AreInBox n x parts m
    → ((i : ℕ) → i < n → HoldsNatural (ends_at q.covolumes i) s (f i)) → IsBetween (covolume_range q x) s (mean_by n m parts f)
unfolding covolume_range
range_holds n q x parts m s f count some hs box h =
    subst (λ (k : ℕ). IsBetween (range_by k (k - 1) q.covolumes x) s (mean_by n m parts f)) (sym count)
    (range_at n (n - 1) q.covolumes x parts m s f (omega (arith, some)) hs box h)

-- ---- the ends are in order
-- the parts of the lower ends of the free fractions, and what they leave of one
module _ (r : ℕ) (x : Box) (few : sum_below r (slice_index x.lo) ≤ one) where
  abbrev least_parts : ℕ → ℕ
  least_parts i = cond (nat_lt i r) (slice_index x.lo i) (one - sum_below r (slice_index x.lo))

  free_part : (i : ℕ) → i < r → least_parts i ≡ slice_index x.lo i
  free_part i h = rw (lt-ltb i r h) refl

  free_sum : sum_below r least_parts ≡ sum_below r (slice_index x.lo)
  free_sum =
      let e = sum_below-scaled_same r 1 1 least_parts (slice_index x.lo) (λ i h. let k = free_part i h in omega (arith, k)) in
      omega (arith, e)

  last_part : least_parts r ≡ one - sum_below r (slice_index x.lo)
  last_part = rw (le-ltb r r (omega arith)) refl

  they_are_free : ((i : ℕ) → i < r → slice_index x.lo i ≤ slice_index x.hi i) → AreFree r x least_parts one
  they_are_free ordered = record {
    some = lit< tt;
    all = (let a = free_sum in let b = last_part in omega (arith, a, b, few));
    inside = λ i h. (let e = free_part i h in let o = ordered i h in let q = mul-le-mul_right one o in record { above = omega (arith, e); below = omega (arith, e, q) });
  }

ordered_at : (n rest : ℕ) (b : List Ends) (x : Box) → n ≡ suc rest → sum_below rest (slice_index x.lo) ≤ one → ((i : ℕ) → i < rest → slice_index x.lo i ≤ slice_index x.hi i)
    → ((i : ℕ) → i < n → pos 0 ≤ℤ (ends_at b i).lo) → ((i : ℕ) → i < n → (ends_at b i).lo ≤ℤ (ends_at b i).hi)
    → (range_by n rest b x).lo ≤ℤ (range_by n rest b x).hi
ordered_at zero r b x is few inside low order = absurd (omega (arith, is))
ordered_at (suc n) r b x is few inside low order =
    let same : n ≡ r = omega (arith, is) in
    subst (λ (k : ℕ). sum_below k (slice_index x.lo) ≤ one → ((i : ℕ) → i < k → slice_index x.lo i ≤ slice_index x.hi i) → (range_by (suc n) k b x).lo ≤ℤ (range_by (suc n) k b x).hi) same
    (λ few inside.
    ends_ordered (range_by (suc n) n b x) 1 (mean_by (suc n) one (least_parts n x few) (λ i. whole (ends_at b i).lo))
    (range_free n b x (least_parts n x few) one 1 (λ i. whole (ends_at b i).lo) (lit< tt) (they_are_free n x few inside)
    (λ i h. record { low = low i h; held = record { is_fraction = lit< tt; above = omega (arith, ints); below = (let o = order i h in omega (arith, ints, o)) } })))
    few inside

pub range_ordered : (n : ℕ) (q : Numbers) (x : Box) → q.count ≡ n → 0 < n → sum_below (n - 1) (slice_index x.lo) ≤ one → ((i : ℕ) → i < n → slice_index x.lo i ≤ slice_index x.hi i)
    → ((i : ℕ) → i < n → pos 0 ≤ℤ (ends_at q.covolumes i).lo) → ((i : ℕ) → i < n → (ends_at q.covolumes i).lo ≤ℤ (ends_at q.covolumes i).hi)
    → (covolume_range q x).lo ≤ℤ (covolume_range q x).hi
unfolding covolume_range
range_ordered n q x count some few inside low order =
    subst (λ (k : ℕ). (range_by k (k - 1) q.covolumes x).lo ≤ℤ (range_by k (k - 1) q.covolumes x).hi) (sym count)
    (ordered_at n (n - 1) q.covolumes x (omega (arith, some)) few (λ i h. inside i (omega (arith, h))) low order)

-- ---- the lower ends of the fractions, and what they leave of one given to the last
-- parts of one, from the lower ends up, whose upper ends of co-volumes add up to no more than the range's
pub record HasLeastParts (n : ℕ) (b : List Ends) (x : Box) (range : Ends) : Type 0 where
  pub parts : ℕ → ℕ
  pub all : one ≡ sum_below n parts
  pub above : (i : ℕ) → i < n → slice_index x.lo i * one ≤ parts i * one
  pub under : pos (sum_below n (λ i. parts i * positive_part (ends_at b i).hi)) ≤ℤ (range.hi *ℤ pos one)

parts_at : (n rest : ℕ) (b : List Ends) (x : Box) → n ≡ suc rest → sum_below rest (slice_index x.lo) + slice_index x.lo rest ≤ one
    → ((i : ℕ) → i < rest → slice_index x.lo i ≤ slice_index x.hi i) → ((i : ℕ) → i < n → pos 0 ≤ℤ (ends_at b i).hi) → ((i : ℕ) → i < n → (ends_at b i).lo ≤ℤ (ends_at b i).hi)
    → HasLeastParts n b x (range_by n rest b x)
parts_at zero r b x is few inside high order = absurd (omega (arith, is))
parts_at (suc n) r b x is few inside high order =
    let same : n ≡ r = omega (arith, is) in
    subst (λ (k : ℕ). sum_below k (slice_index x.lo) + slice_index x.lo k ≤ one → ((i : ℕ) → i < k → slice_index x.lo i ≤ slice_index x.hi i) → HasLeastParts (suc n) b x (range_by (suc n) k b x)) same
    (λ few inside.
    let less : sum_below n (slice_index x.lo) ≤ one = omega (arith, few) in
    let free = they_are_free n x less inside in
    record {
      parts = least_parts n x less;
      all = free.all;
      above = λ i h. at_each n x less few i h;
      under = sum_in_range n b x (least_parts n x less) one free high (order n (omega arith));
    })
    few inside
  where
    at_each : (n : ℕ) (x : Box) (less : sum_below n (slice_index x.lo) ≤ one) → sum_below n (slice_index x.lo) + slice_index x.lo n ≤ one → (i : ℕ) → i < suc n
        → slice_index x.lo i * one ≤ least_parts n x less i * one
    at_each n x less few i h =
        elim (cases_lt i n) [
          | inl k ↦ let e = free_part n x less i k in omega (arith, e)
          | inr k ↦
              let same : i ≡ n = omega (arith, k, h) in
              subst (λ (j : ℕ). slice_index x.lo j * one ≤ least_parts n x less j * one) (sym same) (let e = last_part n x less in omega (arith, e, few))
        ]

pub least_parts_of : (n : ℕ) (q : Numbers) (x : Box) → q.count ≡ n → 0 < n → sum_below n (slice_index x.lo) ≤ one → ((i : ℕ) → i < n → slice_index x.lo i ≤ slice_index x.hi i)
    → ((i : ℕ) → i < n → pos 0 ≤ℤ (ends_at q.covolumes i).hi) → ((i : ℕ) → i < n → (ends_at q.covolumes i).lo ≤ℤ (ends_at q.covolumes i).hi)
    → HasLeastParts n q.covolumes x (covolume_range q x)
unfolding covolume_range
least_parts_of n q x count some few inside high order =
    subst (λ (k : ℕ). HasLeastParts n q.covolumes x (range_by k (k - 1) q.covolumes x)) (sym count)
    (parts_at n (n - 1) q.covolumes x (omega (arith, some)) (split n some few) (λ i h. inside i (omega (arith, h))) high order)
  where
    split : (n : ℕ) → 0 < n → sum_below n (slice_index x.lo) ≤ one → sum_below (n - 1) (slice_index x.lo) + slice_index x.lo (n - 1) ≤ one
    split zero some few = absurd (omega (arith, some))
    split (suc n) some few = let e : suc n - 1 ≡ n = omega arith in rw e few
