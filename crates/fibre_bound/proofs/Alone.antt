-- A division of the feed of one phase alone: its phase is the feed, and has its energy.
use Rattle.std.proofs.Common.{◌≡◌, ℕ, ◌+◌, ◌*◌, ◌^◌, ◌<◌, ◌≤◌, [], ◌∷◌, slice_index, ℤ, pos, ◌+ℤ◌, ◌*ℤ◌, ◌≤ℤ◌, lit<, ap, sym, subst, ◌∙◌, arith}
use Rattle.std.proofs.Math.IntN.{*ℤ_comm}
use Rattle.std.proofs.lemmas.Int.{ints}
use Rattle.std.proofs.Math.Nat.{eq_of_mul-eq-mul_left, le_of_mul-le-mul_left, mul-le-mul_right}
use Rattle.log_laws.specs.Fraction.{IsAtMost, product_of, whole}
use Rattle.log_laws.specs.LogSum.{LogSum, AtLeast, AtMost, ratio, scaled, constant}
use Rattle.log_laws.specs.Sums.{sum_below}
use Rattle.log_laws.proofs.Exports.{scale_scale, sum_below-scaled_same, at_least_scales, at_least_lowers, at_least_adds_at, constant_at_least, lowered, at_most_scales, at_most_raises, at_most_adds_at, constant_at_most, heightened, parts_self}
use Rattle.case_types.specs.declared.cases.Case.{Case}
use Rattle.case_types.specs.Arithmetic.Bounds.{one, box_of_parts}
use Rattle.case_types.specs.Arithmetic.Holding.{IsInBox}
use Rattle.case_types.specs.Energy.Components.{feed}
use Rattle.case_types.specs.Energy.Divisions.{State, Division, moles, bits, state_of, parts_in, energy_of_phases}
use Rattle.case_types.proofs.Exports.{in_box_of_parts, parts_top, total_positive}
use Rattle.split_energies.specs.Feeds.{feed_phase}
use Rattle.split_energies.proofs.Exports.{feed_part_of, feed_parts_sum, feed_box_is}
use Rattle.fibre_bound.specs.Laws.{IsAlone}

-- ---- its energy
all_of : (m : ℕ) (z : ℤ) → (pos m *ℤ z) *ℤ pos (2 ^ 40) ≡ z *ℤ pos (m * 2 ^ 40)
all_of m z = ap (λ (a : ℤ). a *ℤ pos (2 ^ 40)) (*ℤ_comm (pos m) z) ∙ scale_scale z m (2 ^ 40)

no_more : (z : ℤ) → z +ℤ pos 0 ≡ z
no_more z = omega (arith, ints)

pub alone_at_least : (n : ℕ) (energy : State → LogSum) (sum : ℕ) (f : State) (z : ℤ) → moles n f ≡ sum → 0 < sum → AtLeast (energy f) (bits z) →
    AtLeast (energy_of_phases n energy sum (f ∷ [])) (bits z)
unfolding energy_of_phases
alone_at_least n energy sum f z all some h =
    let share = ratio (moles n f) sum in
    let part = at_least_scales share (energy f) (bits z) some (omega (arith, ints)) h in
    let own = at_least_lowers (scaled share (energy f)) (product_of share (bits z)) (bits z) (lit< tt) (less (moles n f) sum all) part in
    let none = lowered (constant (whole (pos 0))) (whole (pos 0)) (bits (pos 0)) (parts_self (pos 0) 1 (omega arith)) (parts_self (pos 0) (2 ^ 40) (lit< tt)) (omega arith)
    (constant_at_least (whole (pos 0)) (omega arith)) in
    subst (λ (y : ℤ). AtLeast (energy_of_phases n energy sum (f ∷ [])) (bits y)) (no_more z)
    (at_least_adds_at (scaled share (energy f)) (constant (whole (pos 0))) z (pos 0) (2 ^ 40) (lit< tt) own none)
  where
    less : (m sum : ℕ) → m ≡ sum → IsAtMost (bits z) (product_of (ratio m sum) (bits z))
    less m sum all =
        subst (λ (k : ℕ). IsAtMost (bits z) (product_of (ratio k sum) (bits z))) (sym all) (subst (λ (y : ℤ). (z *ℤ pos (sum * 2 ^ 40)) ≤ℤ y) (sym (all_of sum z)) (omega (arith, ints)))

pub alone_at_most : (n : ℕ) (energy : State → LogSum) (sum : ℕ) (f : State) (z : ℤ) → moles n f ≡ sum → 0 < sum → AtMost (energy f) (bits z) →
    AtMost (energy_of_phases n energy sum (f ∷ [])) (bits z)
unfolding energy_of_phases
alone_at_most n energy sum f z all some h =
    let share = ratio (moles n f) sum in
    let part = at_most_scales share (energy f) (bits z) some (omega (arith, ints)) h in
    let own = at_most_raises (scaled share (energy f)) (product_of share (bits z)) (bits z) (lit< tt) (less (moles n f) sum all) part in
    let none = heightened (constant (whole (pos 0))) (whole (pos 0)) (bits (pos 0)) (parts_self (pos 0) 1 (omega arith)) (parts_self (pos 0) (2 ^ 40) (lit< tt)) (omega arith)
    (constant_at_most (whole (pos 0)) (omega arith)) in
    subst (λ (y : ℤ). AtMost (energy_of_phases n energy sum (f ∷ [])) (bits y)) (no_more z)
    (at_most_adds_at (scaled share (energy f)) (constant (whole (pos 0))) z (pos 0) (2 ^ 40) (lit< tt) own none)
  where
    less : (m sum : ℕ) → m ≡ sum → IsAtMost (product_of (ratio m sum) (bits z)) (bits z)
    less m sum all =
        subst (λ (k : ℕ). IsAtMost (product_of (ratio k sum) (bits z)) (bits z)) (sym all) (subst (λ (y : ℤ). y ≤ℤ (z *ℤ pos (sum * 2 ^ 40))) (sym (all_of sum z)) (omega (arith, ints)))

-- ---- its composition
once : (a : ℕ) → a + 0 ≡ a
once a = omega arith

-- each component has its share
pub alone_parts : (c : Case) (d : Division) (f : State) → IsAlone c d f → (i : ℕ) → i < c.n → c.total * f.parts i ≡ feed c i * d.sum
alone_parts c d f h i l =
    let adds = subst (λ phases. c.total * parts_in phases i ≡ feed c i * d.sum) h.phases (h.divides.adds_up i l) in
    rw (once (f.parts i)) at adds

pub alone_moles : (c : Case) (d : Division) (f : State) → IsAlone c d f → moles c.n f ≡ d.sum
alone_moles c d f h =
    let same = sum_below-scaled_same c.n c.total d.sum f.parts (feed c) (alone_parts c d f h) in
    eq_of_mul-eq-mul_left c.total (total_positive c) (moles c.n f) d.sum (turned (moles c.n f) (sum_below c.n (feed c)) d.sum same c.added)
  where
    turned : (m z s : ℕ) → m * c.total ≡ z * s → z ≡ c.total → c.total * m ≡ c.total * s
    turned m z s e k = let g : m * c.total ≡ c.total * s = rw k at e in omega (arith, g)

-- what the box of the feed holds, it holds of whatever is in proportion
scaled_above : (lo z t p m : ℕ) → lo * t ≤ z * one → t * p ≡ z * m → 0 < t → lo * m ≤ p * one
scaled_above lo z t p m h e some =
    let more = mul-le-mul_right m h in
    le_of_mul-le-mul_left (omega (arith, more, e)) some

scaled_below : (hi z t p m : ℕ) → z * one ≤ hi * t → t * p ≡ z * m → 0 < t → p * one ≤ hi * m
scaled_below hi z t p m h e some =
    let more = mul-le-mul_right m h in
    le_of_mul-le-mul_left (omega (arith, more, e)) some

feed_in_box : (c : Case) → IsInBox c.n (box_of_parts c.n c.z) (state_of (feed_phase c 1))
feed_in_box c = subst (λ x. IsInBox c.n x (state_of (feed_phase c 1))) (feed_box_is c 1) (in_box_of_parts c.n (feed_phase c 1) c.few (rw (feed_parts_sum c 1) (total_positive c)))

-- the feed's box holds its composition
pub in_box_of_feed : (c : Case) (f : State) (sum : ℕ) → moles c.n f ≡ sum → ((i : ℕ) → i < c.n → c.total * f.parts i ≡ feed c i * sum) → IsInBox c.n (box_of_parts c.n c.z) f
in_box_of_feed c f sum all parts = record {
  above = λ i l.
      rw all
      (scaled_above _ (feed c i) c.total (f.parts i) sum (rw (feed_parts_sum c 1, feed_part_of c 1 i l) at ((feed_in_box c).above i l)) (parts i l) (total_positive c));
  below = λ i l.
      rw all
      (scaled_below _ (feed c i) c.total (f.parts i) sum (rw (feed_parts_sum c 1, feed_part_of c 1 i l) at ((feed_in_box c).below i l)) (parts i l) (total_positive c));
}

pub feed_top : (c : Case) (i : ℕ) → i < c.n → slice_index (box_of_parts c.n c.z).hi i ≤ one
feed_top c = parts_top c.n c.z c.few (rw c.added (total_positive c))
