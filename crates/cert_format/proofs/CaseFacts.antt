-- The case of a whole head keeps the ranges of cases.
use Rattle.std.proofs.Common.{◌≡◌, ◌<◌, ◌≤◌, ◌+◌, ◌-◌, ◌∙◌, ℕ, zero, suc, ℤ, pos, neg_ℤ, List, [], get_or, ap, sym, refl, arith, Bool, true, false}
use Rattle.std.specs.Prelude.{◌≤ℤ◌, if◌then◌else◌, nat_le, nat_lt, int_le, ◌&&◌, slice_index}
use Rattle.std.proofs.lemmas.Bool.{le-leb, ltb-true}
use Rattle.log_laws.specs.Sums.{all_below, sum_below}
use Rattle.log_laws.proofs.Exports.{sum_below-same, all_below-from}
use Rattle.case_types.specs.Ranges.{is_critical_temperature, is_critical_pressure, is_acentric_factor, is_interaction, are_interactions, entry}
use Rattle.cert_lines.specs.declared.places.Place.TheVariants.{Component, Interaction}
use Rattle.cert_lines.specs.Heads.{Draft, count_of, up_to}
use Rattle.cert_lines.specs.Indices.{said_on, number_on}
use Rattle.cert_lines.proofs.Exports.{feed_fits, int_le_in}
use Rattle.cert_format.specs.Building.{IsWhole, four, among, natural, held, bounded, temperature_on, pressure_on, factor_on, feed_on, pair_on, interaction_on}
use Rattle.cert_format.proofs.Held.{natural_between, held_between, natural_is, up_to_is}
use Rattle.cert_format.proofs.Live.{of_live, of_other}
use Rattle.cert_format.proofs.Whole.{is_line, are_four, is_counted}

-- ---- four of a kind
pub four_at : {X : Type 0} → (f : ℕ → X) (i : ℕ) (x : X) → i < 4 → get_or (four f) i x ≡ f i
four_at f zero x h = refl
four_at f (suc zero) x h = refl
four_at f (suc (suc zero)) x h = refl
four_at f (suc (suc (suc zero))) x h = refl
four_at f (suc (suc (suc (suc i)))) x h = absurd (omega (arith, h))

-- a test that holds of each of four holds below n
pub below_four : {X : Type 0} → (p : X → Bool) (f : ℕ → X) (xs : List X) (x : X) (n : ℕ) → n ≤ 4 → xs ≡ four f → ((i : ℕ) → i < n → p (f i) ≡ true) → all_below n (λ i. p (get_or xs i x)) ≡ true
below_four p f xs x n few same h =
    all_below-from n (λ i. p (get_or xs i x)) (λ i l. ap p (ap (λ ys. get_or ys i x) same ∙ four_at f i x (omega (arith, l, few))) ∙ h i l)

-- ---- ranges
among_in : {X : Type 0} → (p : X → Bool) (d : Draft) (i : ℕ) (x none : X) → p x ≡ true → p none ≡ true → p (among d i x none) ≡ true
among_in p d i x none a b = by_test (nat_lt i (count_of d))
  where
    by_test : (t : Bool) → p (if t then x else none) ≡ true
    by_test true = a
    by_test false = b

natural_in : (low high : ℕ) (z : ℤ) → low ≤ high → (nat_le low (natural low high z) && nat_le (natural low high z) high) ≡ true
natural_in low high z order =
    let h = natural_between low high z order in
    rw (le-leb low (natural low high z) h.above, le-leb (natural low high z) high h.below) refl

held_in : (low high z : ℤ) → low ≤ℤ high → (int_le low (held low high z) && int_le (held low high z) high) ≡ true
held_in low high z order =
    let h = held_between low high z order in
    rw (int_le_in low (held low high z) h.above, int_le_in (held low high z) high h.below) refl

pub temperature_in : (d : Draft) (i : ℕ) → is_critical_temperature (temperature_on d i) ≡ true
temperature_in d i = among_in is_critical_temperature d i (natural 5000 1500000 (number_on d (Component i) 0)) 5000 (natural_in 5000 1500000 (number_on d (Component i) 0) (omega arith)) refl

pub pressure_in : (d : Draft) (i : ℕ) → is_critical_pressure (pressure_on d i) ≡ true
pressure_in d i = among_in is_critical_pressure d i (natural 100000 50000000 (number_on d (Component i) 1)) 100000 (natural_in 100000 50000000 (number_on d (Component i) 1) (omega arith)) refl

pub factor_in : (d : Draft) (i : ℕ) → is_acentric_factor (factor_on d i) ≡ true
factor_in d i =
    among_in is_acentric_factor d i (held (neg_ℤ (pos 5000)) (pos 15000) (number_on d (Component i) 2)) (pos 0)
    (held_in (neg_ℤ (pos 5000)) (pos 15000) (number_on d (Component i) 2) (omega arith)) refl

-- ---- interactions
pair_in : (d : Draft) (i j : ℕ) → is_interaction (pair_on d i j) ≡ true
pair_in d i j =
    among_in is_interaction d j (bounded 5000 (number_on d (Interaction i j) 2)) (pos 0)
    (held_in (neg_ℤ (pos 5000)) (pos 5000) (number_on d (Interaction i j) 2) (omega arith)) refl

interaction_in : (d : Draft) (i j : ℕ) → is_interaction (interaction_on d i j) ≡ true
interaction_in d i j = by_tests (nat_lt i j) (nat_lt j i) (pair_on d i j) (pair_on d j i) (pair_in d i j) (pair_in d j i)
  where
    by_tests : (a b : Bool) (x y : ℤ) → is_interaction x ≡ true → is_interaction y ≡ true → is_interaction (if a then x else (if b then y else pos 0)) ≡ true
    by_tests true b x y h g = h
    by_tests false true x y h g = g
    by_tests false false x y h g = refl

interaction_turned : (d : Draft) (i j : ℕ) → interaction_on d i j ≡ interaction_on d j i
interaction_turned d i j =
    by_tests (nat_lt i j) (nat_lt j i) (pair_on d i j) (pair_on d j i) (λ a b. omega (arith, ltb-true i j a, ltb-true j i b))
  where
    by_tests : (a b : Bool) (x y : ℤ) → (a ≡ true → b ≡ true → ⊥) → (if a then x else (if b then y else pos 0)) ≡ (if b then y else (if a then x else pos 0))
    by_tests true true x y h = absurd (h refl refl)
    by_tests true false x y h = refl
    by_tests false true x y h = refl
    by_tests false false x y h = refl

interaction_own : (d : Draft) (i : ℕ) → interaction_on d i i ≡ pos 0
interaction_own d i = by_test (nat_lt i i) (pair_on d i i) (λ a. omega (arith, ltb-true i i a))
  where
    by_test : (a : Bool) (x : ℤ) → (a ≡ true → ⊥) → (if a then x else (if a then x else pos 0)) ≡ pos 0
    by_test true x h = absurd (h refl)
    by_test false x h = refl

own_order : (x y : ℤ) → x ≡ y → int_le x y ≡ true
own_order x y e = grind arith

both : (a b : Bool) → a ≡ true → b ≡ true → (a && b) ≡ true
both a b e f = rw (e, f) refl

pub interactions_in : (d : Draft) → are_interactions (four (λ i. four (interaction_on d i))) ≡ true
interactions_in d =
    let rows : List (List ℤ) = four (λ i. four (interaction_on d i)) in
    let is : (i j : ℕ) → i < 4 → j < 4 → entry rows i j ≡ interaction_on d i j =
    λ i j h g. ap (λ (row : List ℤ). get_or row j (pos 0)) (four_at (λ i. four (interaction_on d i)) i [] h) ∙ four_at (interaction_on d i) j (pos 0) g in
    both (all_below 4 (λ i. all_below 4 (λ j. is_interaction (entry rows i j) && int_le (entry rows i j) (entry rows j i))))
    (all_below 4 (λ i. int_le (entry rows i i) (pos 0) && int_le (pos 0) (entry rows i i)))
    (all_below-from 4 (λ i. all_below 4 (λ j. is_interaction (entry rows i j) && int_le (entry rows i j) (entry rows j i)))
    (λ i h. all_below-from 4 (λ j. is_interaction (entry rows i j) && int_le (entry rows i j) (entry rows j i))
    (λ j g. both (is_interaction (entry rows i j)) (int_le (entry rows i j) (entry rows j i)) (ap is_interaction (is i j h g) ∙ interaction_in d i j)
    (own_order (entry rows i j) (entry rows j i) (is i j h g ∙ interaction_turned d i j ∙ sym (is j i g h))))))
    (all_below-from 4 (λ i. int_le (entry rows i i) (pos 0) && int_le (pos 0) (entry rows i i))
    (λ i h. let none : entry rows i i ≡ pos 0 = is i i h h ∙ interaction_own d i in
    both (int_le (entry rows i i) (pos 0)) (int_le (pos 0) (entry rows i i)) (own_order (entry rows i i) (pos 0) none) (own_order (pos 0) (entry rows i i) (sym none))))

-- ---- the feed
pub feed_some : (d : Draft) (i : ℕ) → i < count_of d → nat_le 1 (feed_on d i) ≡ true
feed_some d i h =
    let is : feed_on d i ≡ natural 1 1048576 (number_on d (Component i) 3) = of_live d i (natural 1 1048576 (number_on d (Component i) 3)) 0 h in
    let one = natural_between 1 1048576 (number_on d (Component i) 3) (omega arith) in
    le-leb 1 (feed_on d i) (omega (arith, is, one.above))

pub four_sum : (n : ℕ) (f : ℕ → ℕ) → n ≤ 4 → sum_below n (slice_index (four f)) ≡ sum_below n f
four_sum n f few = sum_below-same n (slice_index (four f)) f (λ i h. four_at f i 0 (omega (arith, h, few)))

-- the parts of the live components are all
pub more_sum : (k n : ℕ) (f : ℕ → ℕ) → ((i : ℕ) → n ≤ i → f i ≡ 0) → sum_below (n + k) f ≡ sum_below n f
more_sum zero n f h =
    let none : n + 0 ≡ n = omega arith in
    ap (λ (m : ℕ). sum_below m f) none
more_sum (suc k) n f h =
    let next : n + suc k ≡ suc (n + k) = omega arith in
    ap (λ (m : ℕ). sum_below m f) next ∙ omega (arith, more_sum k n f h, h (n + k) (omega arith))

pub feed_sum : (d : Draft) → count_of d ≤ 4 → sum_below (count_of d) (feed_on d) ≡ sum_below 4 (feed_on d)
feed_sum d few =
    let all : count_of d + (4 - count_of d) ≡ 4 = omega (arith, few) in
    sym (more_sum (4 - count_of d) (count_of d) (feed_on d) (λ i h. of_other d i (natural 1 1048576 (number_on d (Component i) 3)) 0 h)) ∙ ap (λ (m : ℕ). sum_below m (feed_on d)) all

pub feed_number : (d : Draft) → IsWhole d → (i : ℕ) → i < d.shape.n → pos (feed_on d i) ≡ number_on d (Component i) 3
feed_number d w i h =
    let c = is_counted d w in
    let r = are_four _ _ _ _ (said_on d (Component i)).numbers (is_line d w (Component i) h).fits.numbers in
    ap pos (of_live d i (natural 1 1048576 (number_on d (Component i) 3)) 0 (omega (arith, h, c.counted))) ∙ natural_is 1 1048576 (number_on d (Component i) 3) r.fourth

pub feed_limit : (d : Draft) → IsWhole d → sum_below 4 (feed_on d) ≤ 1048576
feed_limit d w =
    let c = is_counted d w in
    let same = sum_below-same d.shape.n (feed_on d) (λ i. up_to 1048576 (number_on d (Component i) 3)) (λ i h. as_read i h) in
    let few : count_of d ≤ 4 = omega (arith, c.counted, c.few) in
    omega (arith, feed_sum d few, same, ap (λ (n : ℕ). sum_below n (feed_on d)) c.counted, feed_fits d w.read.0 w.read.1 w.ended)
  where
    back : (m n : ℕ) (z : ℤ) → pos m ≡ z → pos n ≡ z → m ≡ n
    back m n z e f = grind arith

    as_read : (i : ℕ) → i < d.shape.n → feed_on d i ≡ up_to 1048576 (number_on d (Component i) 3)
    as_read i h =
        let r = are_four _ _ _ _ (said_on d (Component i)).numbers (is_line d w (Component i) h).fits.numbers in
        back (feed_on d i) (up_to 1048576 (number_on d (Component i) 3)) (number_on d (Component i) 3) (feed_number d w i h)
        (up_to_is 1048576 (number_on d (Component i) 3) (grind (arith, r.fourth.low)) r.fourth.high)
