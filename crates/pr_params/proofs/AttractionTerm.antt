-- The attraction term lies between its ends, from ends of A / B and of the packing.
use Rattle.std.proofs.Common.{ℕ, ◌+◌, ◌^◌, ◌≤◌, ◌<◌, ◌≡◌, ap, lit<, ℤ, pos, neg_ℤ, ◌*ℤ◌, ◌≤ℤ◌}
use Rattle.log_laws.specs.Between.{Ends, IsBetween}
use Rattle.log_laws.specs.Fraction.{Fraction, IsFraction, IsAtMost, quotient_of}
use Rattle.log_laws.specs.LogSum.{AtLeast, AtMost, ratio, IsPositive}
use Rattle.log_laws.specs.Whole.{floor_div, ceil_div}
use Rattle.log_laws.proofs.Exports.{floor_over-le, le-ceil_over}
use Rattle.case_types.specs.declared.cases.Case.{Case}
use Rattle.case_types.specs.Arithmetic.Bounds.{Box, covolume_range, ratio_low, ratio_high, lambda_down, lambda_up, attraction_term_low, attraction_term_high}
use Rattle.case_types.specs.Energy.Divisions.{State, IsState, bits, mean_covolume, mean_attraction, attraction_part, attraction_argument}
use Rattle.case_types.specs.Arithmetic.Holding.{HoldsParameters, HoldsMeans}
use Rattle.case_types.specs.Energy.Instances.{Instance}
use Rattle.case_types.specs.Arithmetic.Numbers.{Numbers}
use Rattle.pr_params.specs.Packings.{IsPacking}
use Rattle.pr_params.proofs.Sized.{IsSized, covolume_positive, mean_attraction_is_fraction}
use Rattle.pr_params.proofs.Argument.{positive_between, state_packing}
use Rattle.pr_params.proofs.Lambda.{two_ends, minus_lambda_least, lambda_least, log_not_negative, argument_positive}
use Rattle.pr_params.proofs.Pull.{pull_least, pull_most}

-- ---- as the code computes it
-- a product over an end of the root of 2
pub term_low_is : (p : Numbers) (ratio w q : ℤ) (y two : ℕ) → w ≡ ratio *ℤ lambda_down p y *ℤ pos (2 ^ 19) → q ≡ floor_div w (pos two) → pos two ≡ p.root_two.hi →
    q ≡ attraction_term_low p ratio y
unfolding attraction_term_low
term_low_is p ratio w q y two e f g = rw (← e, ← g) f

-- the opposite of what the floor of the opposite is
pub term_high_is : (p : Numbers) (ratio w q : ℤ) (y two : ℕ) → w ≡ ratio *ℤ lambda_up p y *ℤ pos (2 ^ 19) → q ≡ floor_div (neg_ℤ w) (pos two) → pos two ≡ p.root_two.lo →
    neg_ℤ q ≡ attraction_term_high p ratio y
unfolding attraction_term_high
term_high_is p ratio w q y two e f g = rw (← e, ← g) (ap neg_ℤ f)

-- ---- what it bounds
-- a quotient rounded up, or down, times the divisor
ceil_room : (z v : ℤ) (n : ℕ) → v ≡ pos n → 0 < n → z ≤ℤ (ceil_div z v *ℤ pos n)
ceil_room z v n e h = rw e (le-ceil_over z n h)

floor_room : (z v : ℤ) (n : ℕ) → v ≡ pos n → 0 < n → (floor_div z v *ℤ pos n) ≤ℤ z
floor_room z v n e h = rw e (floor_over-le z n h)

module _ (p : Numbers) (s a b y : Fraction) (two : p.root_two ≡ two_ends) (root : IsBetween p.root_two (2 ^ 60) s) (pb : IsPositive b) (ha : IsFraction a) (packing : IsPacking y) where
  root_positive : IsPositive s
  root_positive = positive_between 1630477228166597776 (2 ^ 60) (pos 1630477228166597777) s (lit< tt) (rw two at root)

  -- from A / B at most and the packing at most
  attraction_least : (g : ℤ) (Y : ℕ) → pos 0 ≤ℤ g → IsAtMost (quotient_of a b) (bits g) → IsAtMost y (ratio Y (2 ^ 40)) → Y ≤ 2 ^ 40 →
      AtLeast (attraction_part s a b y) (bits (neg_ℤ (attraction_term_high p g Y)))
  unfolding attraction_term_high
  attraction_least g Y some share to within =
      let between = rw two at root in
      pull_least s a b (attraction_argument s y) 1630477228166597776 g (lambda_up p Y) (ceil_div (g *ℤ lambda_up p Y *ℤ pos (2 ^ 19)) p.root_two.lo) (lit< tt)
      root_positive pb ha (argument_positive p s y two root packing) between.above some share
      (ceil_room (g *ℤ lambda_up p Y *ℤ pos (2 ^ 19)) p.root_two.lo 1630477228166597776 (ap (λ (v : Ends). v.lo) two) (lit< tt))
      (minus_lambda_least p s y two root packing Y within to) (log_not_negative p s y two root packing)

  -- from both at least
  attraction_most : (g : ℤ) (Y : ℕ) → pos 0 ≤ℤ g → IsAtMost (bits g) (quotient_of a b) → IsAtMost (ratio Y (2 ^ 40)) y → Y ≤ 2 ^ 40 →
      AtMost (attraction_part s a b y) (bits (neg_ℤ (attraction_term_low p g Y)))
  unfolding attraction_term_low
  attraction_most g Y some share from within =
      let between = rw two at root in
      pull_most s a b (attraction_argument s y) 1630477228166597777 g (lambda_down p Y) (floor_div (g *ℤ lambda_down p Y *ℤ pos (2 ^ 19)) p.root_two.hi) (lit< tt)
      root_positive pb ha (argument_positive p s y two root packing) between.below some share
      (floor_room (g *ℤ lambda_down p Y *ℤ pos (2 ^ 19)) p.root_two.hi 1630477228166597777 (ap (λ (v : Ends). v.hi) two) (lit< tt))
      (lambda_least p s y two root packing Y within from) (log_not_negative p s y two root packing)

-- ---- for a state of a box
module _ (c : Case) (p : Numbers) (x : Instance) (box : Box) (f : State) (Y : ℕ) (sized : IsSized c.n p box) (holds : HoldsParameters c p x) (means : HoldsMeans c p x box f) (state : IsState c.n f) where
  covolume_some : IsPositive (mean_covolume c f)
  covolume_some = covolume_positive (covolume_range p box) (2 ^ (56 + p.lift)) (mean_covolume c f) sized.covolume_low means.covolume

  pub state_attraction_least : pos 0 ≤ℤ ratio_high p box → IsAtMost f.packing (ratio Y (2 ^ 40)) → Y ≤ 2 ^ 40 →
      AtLeast (attraction_part x.root_two (mean_attraction c x f) (mean_covolume c f) f.packing) (bits (neg_ℤ (attraction_term_high p (ratio_high p box) Y)))
  state_attraction_least some to within =
      attraction_least p x.root_two (mean_attraction c x f) (mean_covolume c f) f.packing sized.root_two holds.root_two covolume_some
      (mean_attraction_is_fraction c p x f holds state.some) (state_packing c.n f state) (ratio_high p box) Y some means.ratio_high to within

  pub state_attraction_most : pos 0 ≤ℤ ratio_low p box → IsAtMost (ratio Y (2 ^ 40)) f.packing → Y ≤ 2 ^ 40 →
      AtMost (attraction_part x.root_two (mean_attraction c x f) (mean_covolume c f) f.packing) (bits (neg_ℤ (attraction_term_low p (ratio_low p box) Y)))
  state_attraction_most some from within =
      attraction_most p x.root_two (mean_attraction c x f) (mean_covolume c f) f.packing sized.root_two holds.root_two covolume_some
      (mean_attraction_is_fraction c p x f holds state.some) (state_packing c.n f state) (ratio_low p box) Y some means.ratio_low from within
