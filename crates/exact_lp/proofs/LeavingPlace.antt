-- The place that leaves, from the amounts of the frame.
use Rattle.std.proofs.Common.{◌≡◌, ℕ, ◌^◌, ◌<◌, ◌≤◌, inl, inr, List, length, ℤ, pos, slice_index, refl, ap, ◌∙◌, arith}
use Rattle.log_laws.specs.Sums.{int_sum_below}
use Rattle.case_types.specs.declared.cases.Case.{Case}
use Rattle.case_types.specs.declared.rounds.Column.{Column}
use Rattle.energy_surface.specs.Program.Bases.{column_at, composition, system, feed_of, AreColumns, IsBasis}
use Rattle.energy_surface.specs.Program.Pivots.{IsLeaving}
use Rattle.energy_surface.specs.Program.Solutions.{amount}
use Rattle.exact_lp.specs.Frames.{along, along_all, entry, row_of, filled, live_parts, IsFrame, IsNoLater, IsBestSoFar}
use Rattle.exact_lp.proofs.DeterminantRules.{by_place}
use Rattle.log_laws.proofs.Exports.{sum-whole}
use Rattle.exact_lp.proofs.WeighedAmounts.{some_takes_part}
use Rattle.exact_lp.proofs.AfterPivot.{spans_above}
use Rattle.exact_lp.proofs.LiveParts.{nth, along_live, frame_amount}

entry_all : (a b c d : List ℤ) (x : ℕ → ℤ) (k : ℕ) → k < 4 → entry (along_all a b c d x) k ≡ along (nth a b c d k) x
unfolding nth
entry_all a b c d x k h = by_place (λ k. entry (along_all a b c d x) k ≡ along (nth a b c d k) x) refl refl refl refl k h

-- the entries are the amounts
pub entry_amount : (n : ℕ) → 1 ≤ n → n ≤ 4 → (m : ℕ → ℕ → ℤ) (s : ℕ) (a b c d : List ℤ) → IsFrame (filled n m) s a b c d → (x : List ℕ) (k : ℕ) → k < n →
    entry (along_all a b c d (row_of (live_parts n x))) k ≡ amount n m (row_of x) k
entry_amount n low high m s a b c d f x k h =
    entry_all a b c d (row_of (live_parts n x)) k (omega (arith, h, high))
    ∙ along_live (nth a b c d k) n x ∙ frame_amount n low high m s a b c d f (row_of x) k h

-- the columns of a basis weigh 2^20 each
pub rows_weigh : (c : Case) (cols : List Column) (at : List ℕ) → AreColumns c.n cols → IsBasis c cols at → (k : ℕ) → k < c.n → int_sum_below c.n (system cols at k) ≡ pos (2 ^ 20)
rows_weigh c cols at good basis k h =
    sum-whole c.n (slice_index (column_at cols (slice_index at k)).comp) ∙ ap pos (good.points (slice_index at k) (basis.inside k h)).whole

no_later_by : (z x p q : ℕ → ℤ) (at : ℕ → ℕ) (k j : ℕ) → z k ≡ p k → z j ≡ p j → x k ≡ q k → x j ≡ q j → IsNoLater z x at k j → IsNoLater p q at k j
no_later_by z x p q at k j e f g h l = rw (e, f, g, h) at l

pub leaves_by : (c : Case) (cols : List Column) (at : List ℕ) (enter r : ℕ) (z x : ℕ → ℤ) → AreColumns c.n cols → IsBasis c cols at → enter < length cols →
    ((k : ℕ) → k < c.n → z k ≡ amount c.n (system cols at) (feed_of c) k) → ((k : ℕ) → k < c.n → x k ≡ amount c.n (system cols at) (composition (column_at cols enter)) k) →
    IsBestSoFar z x (slice_index at) c.n c.n r → IsLeaving c cols at enter r
leaves_by c cols at enter r z x good basis inside zs xs (inl none) =
    absurd (some_takes_part c.n c.some c.few (system cols at) (composition (column_at cols enter)) (2 ^ 20) (omega arith) (spans_above c cols at basis)
    (rows_weigh c cols at good basis)
    (sum-whole c.n (slice_index (column_at cols enter).comp) ∙ ap pos (good.points enter inside).whole)
    (λ k h. rw (xs k h) at (none.1 k h)))
leaves_by c cols at enter r z x good basis inside zs xs (inr some) = record {
  place = some.1;
  takes_part = rw (xs r some.1) at some.0;
  least = λ j h takes.
      no_later_by z x (amount c.n (system cols at) (feed_of c)) (amount c.n (system cols at) (composition (column_at cols enter))) (slice_index at) r j
      (zs r some.1) (zs j h) (xs r some.1) (xs j h) (some.2 j h (rw (← xs j h) at takes));
}

pub entry_of : (n : ℕ) → 1 ≤ n → n ≤ 4 → (m : ℕ → ℕ → ℤ) (s : ℕ) (a b c d : List ℤ) → IsFrame (filled n m) s a b c d → (x y : List ℕ) (u : List ℤ) →
    y ≡ live_parts n x → u ≡ along_all a b c d (row_of y) → (k : ℕ) → k < n → entry u k ≡ amount n m (row_of x) k
entry_of n low high m s a b c d f x y u e g k h =
    ap (λ (v : List ℤ). entry v k) (g ∙ ap (λ (t : List ℕ). along_all a b c d (row_of t)) e) ∙ entry_amount n low high m s a b c d f x k h
