-- The feed in one phase: its energy is that of the state, and it divides the feed.
use Rattle.std.proofs.Common.{◌≡◌, ℕ, ◌+◌, ◌*◌, ◌^◌, ◌<◌, ◌≤◌, [], ◌∷◌, ℤ, pos, ◌+ℤ◌, slice_index, refl, ap, sym, ◌∙◌, arith}
use Rattle.std.proofs.lemmas.Bool.{lt-ltb, le-leb}
use Rattle.std.proofs.lemmas.Int.{ints}
use Rattle.std.proofs.lemmas.List.Elements.{All-cons, All-nil}
use Rattle.log_laws.specs.Sums.{sum_below}
use Rattle.case_types.specs.declared.cases.Case.{Case}
use Rattle.case_types.specs.declared.phases.Phase.{Phase}
use Rattle.case_types.specs.declared.phases.Split.{Split}
use Rattle.case_types.specs.Arithmetic.Bounds.{Box, box_of_parts}
use Rattle.case_types.specs.Arithmetic.Splits.{share_of_energy, phase_up, phases_up, split_up}
use Rattle.case_types.specs.Energy.Divisions.{state_of, IsState, Divides, division_of}
use Rattle.case_types.proofs.Exports.{state_of-is_state, total_positive}
use Rattle.energy_surface.specs.Surfaces.{Surface}
use Rattle.split_energies.specs.Feeds.{feed_phase, IsOnePhase}
use Rattle.split_energies.proofs.ExactShares.{whole_share, share_same}
use Rattle.split_energies.proofs.FeedPhase.{feed_part_of, feed_parts_sum, feed_box_is}

phases_alone : (n : ℕ) (up : Box → ℕ → ℤ) (sum : ℕ) (f : Phase) → phases_up n up sum (f ∷ []) ≡ share_of_energy (sum_below n (slice_index f.parts)) sum (phase_up n up f)
unfolding phases_up
phases_alone n up sum f = plus_none (share_of_energy (sum_below n (slice_index f.parts)) sum (phase_up n up f))
  where
    plus_none : (z : ℤ) → z +ℤ pos 0 ≡ z
    plus_none z = omega (arith, ints)

pub feed_up : (s : Surface) (c : Case) (y : ℕ) → s.count ≡ c.n → phase_up s.count s.up (feed_phase c y) ≡ s.up (box_of_parts c.n c.z) y
feed_up s c y count = ap (λ n. s.up (box_of_parts n (feed_phase c y).parts) y) count ∙ ap (λ x. s.up x y) (feed_box_is c y)

-- its energy is that of the state
pub one_phase_energy : (s : Surface) (c : Case) (y : ℕ) (up : ℤ) (split : Split) → s.count ≡ c.n → IsOnePhase c y split →
    up ≡ s.up (box_of_parts c.n c.z) y → up ≡ split_up s.count s.up split
one_phase_energy s c y up split count is e =
    let all = ap (λ n. sum_below n (slice_index (feed_phase c y).parts)) count ∙ feed_parts_sum c y in
    rw (is.sum, is.phases)
    (e ∙ sym (feed_up s c y count) ∙ sym (whole_share c.total (phase_up s.count s.up (feed_phase c y)) (total_positive c))
    ∙ share_same _ _ _ _ _ _ (sym all) refl refl ∙ sym (phases_alone s.count s.up c.total (feed_phase c y)))

pub one_phase_divides : (c : Case) (y : ℕ) (split : Split) → IsOnePhase c y split → 1 ≤ y → y < 2 ^ 40 → Divides c (division_of split)
one_phase_divides c y split is some inside = record {
  positive = rw is.sum (total_positive c);
  phases =
      rw is.phases (All-cons (IsState c.n) (state_of (feed_phase c y)) []
      (state_of-is_state c.n (feed_phase c y) (rw (le-leb 1 y some, lt-ltb y (2 ^ 40) inside) refl) (rw (feed_parts_sum c y) (total_positive c))) (All-nil (IsState c.n)));
  adds_up = λ i h. rw (is.sum, is.phases) (turned (slice_index (feed_phase c y).parts i) (slice_index c.z i) c.total (feed_part_of c y i h));
}
  where
    turned : (a z t : ℕ) → a ≡ z → t * (a + 0) ≡ z * t
    turned a z t e = rw e (omega arith)
