-- The feed as a phase: its parts are those of the feed, and its box is that of the feed.
use Rattle.std.proofs.Common.{◌≡◌, ℕ, zero, suc, ◌*◌, ◌^◌, ◌<◌, ◌≤◌, Bool, true, false, cond, [], ◌∷◌, slice_index, refl, sym, ◌∙◌, arith}
use Rattle.std.specs.Prelude.{if◌then◌else◌, nat_lt, nat_le, IsTrue}
use Rattle.std.specs.List.{list_all}
use Rattle.std.proofs.lemmas.Bool.{lt-ltb, ltb-true, le-leb}
use Rattle.log_laws.specs.Sums.{sum_below, list_below}
use Rattle.log_laws.proofs.Exports.{le-sum_below, sum_below-fewer, sum_below-scaled_same}
use Rattle.case_types.specs.declared.cases.Case.{Case}
use Rattle.case_types.specs.declared.phases.Phase.{Phase}
use Rattle.case_types.specs.Arithmetic.Bounds.{one, share_down, share_up, box_of_parts}
use Rattle.case_types.specs.Ranges.{are_parts}
use Rattle.case_types.proofs.Exports.{box_same, total_positive}
use Rattle.split_energies.specs.Feeds.{feed_part, feed_phase}

-- ---- its parts
pub feed_part_of : (c : Case) (y i : ℕ) → i < c.n → slice_index (feed_phase c y).parts i ≡ slice_index c.z i
feed_part_of c y zero h = rw (lt-ltb 0 c.n h) refl
feed_part_of c y (suc zero) h = rw (lt-ltb 1 c.n h) refl
feed_part_of c y (suc (suc zero)) h = rw (lt-ltb 2 c.n h) refl
feed_part_of c y (suc (suc (suc zero))) h = rw (lt-ltb 3 c.n h) refl
feed_part_of c y (suc (suc (suc (suc i)))) h = absurd (omega (arith, h, c.few))

pub feed_parts_sum : (c : Case) (y : ℕ) → sum_below c.n (slice_index (feed_phase c y).parts) ≡ c.total
feed_parts_sum c y =
    let same = sum_below-scaled_same c.n 1 1 (slice_index (feed_phase c y).parts) (slice_index c.z) (λ i h. once (feed_part_of c y i h)) in
    omega (arith, same, c.added)
  where
    once : {a b : ℕ} → a ≡ b → 1 * a ≡ b * 1
    once e = omega (arith, e)

-- ---- its box: what is masked twice
masked : (b : Bool) (f : ℕ → ℕ) (x : ℕ) → cond b (f (if b then x else 0)) 0 ≡ cond b (f x) 0
masked true f x = refl
masked false f x = refl

ends_of_feed : (c : Case) (y : ℕ) (f : ℕ → ℕ) →
    list_below 4 (λ i. cond (nat_lt i c.n) (f (slice_index (feed_phase c y).parts i)) 0) ≡ list_below 4 (λ i. cond (nat_lt i c.n) (f (slice_index c.z i)) 0)
unfolding list_below
ends_of_feed c y f =
    rw (
      masked (nat_lt 0 c.n) f (slice_index c.z 0),
      masked (nat_lt 1 c.n) f (slice_index c.z 1),
      masked (nat_lt 2 c.n) f (slice_index c.z 2),
      masked (nat_lt 3 c.n) f (slice_index c.z 3),
    ) refl

pub feed_box_is : (c : Case) (y : ℕ) → box_of_parts c.n (feed_phase c y).parts ≡ box_of_parts c.n c.z
feed_box_is c y =
    let e = feed_parts_sum c y ∙ sym c.added in
    let m = sum_below c.n (slice_index c.z) in
    box_same _ _ (box_of_parts c.n c.z)
    (rw e (ends_of_feed c y (λ p. share_down one p m))) (rw e (ends_of_feed c y (λ p. share_up one p m)))

-- ---- its parts are those of a phase
feed_part_small : (c : Case) (i : ℕ) (b : Bool) → nat_lt i c.n ≡ b → feed_part c i < 2 ^ 104
feed_part_small c i true e =
    let part = le-sum_below c.n i (slice_index c.z) (ltb-true i c.n e) in
    rw e (omega (arith, part, c.added, c.total_high))
feed_part_small c i false e = rw e (omega arith)

pub feed_has_parts : (c : Case) (y : ℕ) → IsTrue (are_parts (feed_phase c y).parts)
feed_has_parts c y = rw (many, below 0, below 1, below 2, below 3) refl
  where
    below : (i : ℕ) → nat_lt (feed_part c i) (2 ^ 104) ≡ true
    below i = lt-ltb (feed_part c i) (2 ^ 104) (feed_part_small c i (nat_lt i c.n) refl)

    enough : sum_below c.n (slice_index (feed_phase c y).parts) ≤ sum_below 4 (slice_index (feed_phase c y).parts) → 1 ≤ sum_below 4 (slice_index (feed_phase c y).parts)
    enough h = omega (arith, h, feed_parts_sum c y, total_positive c)

    many : nat_le 1 (sum_below 4 (slice_index (feed_phase c y).parts)) ≡ true
    many = le-leb 1 (sum_below 4 (slice_index (feed_phase c y).parts)) (enough (sum_below-fewer c.n 4 (slice_index (feed_phase c y).parts) c.few))

pub one_passes : (p : Phase → Bool) (f : Phase) → IsTrue (p f) → IsTrue (list_all p (f ∷ []))
one_passes p f h = rw h refl
