-- Splits whose phases have the same parts of n components have the same energy, and add up alike.
use Rattle.std.proofs.Common.{◌≡◌, ℕ, ◌<◌, List, [], ◌∷◌, refl, Bool, true, false, ℤ}
use Rattle.std.specs.Prelude.{slice_index, nat_lt, cond, map}
use Rattle.std.proofs.lemmas.Bool.{ltb-true}
use Rattle.log_laws.specs.Sums.{sum_below}
use Rattle.case_types.specs.declared.phases.Phase.{Phase}
use Rattle.case_types.specs.Arithmetic.Bounds.{Box, one, box_of_parts, share_down, share_up}
use Rattle.case_types.specs.Arithmetic.Splits.{phases_up}
use Rattle.case_types.specs.Energy.Divisions.{parts_in, state_of}
use Rattle.case_types.specs.Arithmetic.Same.{IsPhaseSame, ArePhasesSame}
use Rattle.log_laws.proofs.Exports.{sum_below-same, list_below-same}

live-same : (n i : ℕ) (x y : ℕ) → (i < n → x ≡ y) → cond (nat_lt i n) x 0 ≡ cond (nat_lt i n) y 0
live-same n i x y h = by_test (nat_lt i n) (λ e. h (ltb-true i n e))
  where
    by_test : (b : Bool) → (b ≡ true → x ≡ y) → cond b x 0 ≡ cond b y 0
    by_test true k = k refl
    by_test false k = refl

box-same : (n : ℕ) (f g : Phase) → IsPhaseSame n f g → box_of_parts n f.parts ≡ box_of_parts n g.parts
box-same n f g s =
    let m = sum_below n (slice_index g.parts) in
    rw (
      sum_below-same n (slice_index f.parts) (slice_index g.parts) s.parts,
      list_below-same 4 (λ i. cond (nat_lt i n) (share_down one (slice_index f.parts i) m) 0) (λ i. cond (nat_lt i n) (share_down one (slice_index g.parts i) m) 0)
          (λ i l. live-same n i (share_down one (slice_index f.parts i) m) (share_down one (slice_index g.parts i) m) (λ k. rw (s.parts i k) refl)),
      list_below-same 4 (λ i. cond (nat_lt i n) (share_up one (slice_index f.parts i) m) 0) (λ i. cond (nat_lt i n) (share_up one (slice_index g.parts i) m) 0)
          (λ i l. live-same n i (share_up one (slice_index f.parts i) m) (share_up one (slice_index g.parts i) m) (λ k. rw (s.parts i k) refl)),
    ) refl

pub phases_up-same : (n : ℕ) (up : Box → ℕ → ℤ) (sum : ℕ) (fs gs : List Phase) → ArePhasesSame n fs gs → phases_up n up sum fs ≡ phases_up n up sum gs
unfolding phases_up ArePhasesSame
phases_up-same n up sum [] [] s = refl
phases_up-same n up sum [] (g ∷ gs) s = absurd s
phases_up-same n up sum (f ∷ fs) [] s = absurd s
phases_up-same n up sum (f ∷ fs) (g ∷ gs) s =
    rw (box-same n f g s.0, sum_below-same n (slice_index f.parts) (slice_index g.parts) s.0.parts, s.0.packing, phases_up-same n up sum fs gs s.1) refl

pub parts_in-same : (n : ℕ) (fs gs : List Phase) (i : ℕ) → i < n → ArePhasesSame n fs gs → parts_in (map state_of fs) i ≡ parts_in (map state_of gs) i
unfolding ArePhasesSame
parts_in-same n [] [] i l s = refl
parts_in-same n [] (g ∷ gs) i l s = absurd s
parts_in-same n (f ∷ fs) [] i l s = absurd s
parts_in-same n (f ∷ fs) (g ∷ gs) i l s = rw (s.0.parts i l, parts_in-same n fs gs i l s.1) refl
