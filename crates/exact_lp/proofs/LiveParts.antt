-- The points of a basis are the rows of its system, filled up; and what its frame says along a point.
use Rattle.std.proofs.Common.{◌≡◌, ℕ, zero, suc, ◌+◌, ◌*◌, ◌<◌, ◌≤◌, Bool, true, false, List, [], ◌∷◌, ℤ, pos, ◌+ℤ◌, ◌-ℤ◌, ◌*ℤ◌, unsigned_abs, slice_index, slice_index_or, refl, ap, sym, ◌∙◌, arith}
use Rattle.std.specs.Prelude.{if◌then◌else◌, nat_eq, nat_lt}
use Rattle.std.proofs.lemmas.Int.{ints}
use Rattle.std.proofs.lemmas.Bool.Decides.{nat_tests}
use Rattle.std.proofs.lemmas.Bool.{lt-ltb, le-ltb}
use Rattle.log_laws.specs.Sums.{sum_below, int_sum_below}
use Rattle.case_types.specs.declared.rounds.Column.{Column}
use Rattle.energy_surface.specs.Program.Determinants.{determinant, with_row}
use Rattle.energy_surface.specs.Program.Bases.{column_at, composition, system, costs_of}
use Rattle.energy_surface.specs.Program.Solutions.{signed_by, size, amount, price}
use Rattle.exact_lp.specs.Frames.{along, row_of, rows_in, filled, masked, live_parts, unit_parts, row_parts, live_cost, live_costs, paid, IsFrame}
use Rattle.exact_lp.proofs.DeterminantRules.{by_count, by_place, filled-determinant}
use Rattle.log_laws.proofs.Exports.{sum-same, times_nothing}
use Rattle.exact_lp.proofs.LiveSums.{sum-cut}
use Rattle.exact_lp.proofs.Systems.{with_row-filled}
use Rattle.exact_lp.proofs.WeighedAmounts.{plane_at_row}

-- ---- live parts
pub live_light : (n : ℕ) → 1 ≤ n → n ≤ 4 → (x : List ℕ) → sum_below 4 (slice_index (live_parts n x)) ≡ sum_below n (slice_index x)
live_light n low high x =
    by_count (λ n. sum_below 4 (slice_index (live_parts n x)) ≡ sum_below n (slice_index x)) (omega arith) (omega arith) (omega arith) (omega arith) n low high

part : (b : Bool) (x : ℕ) → pos (if b then x else 0) ≡ (if b then pos x else pos 0)
part true x = refl
part false x = refl

unit_part : (b : Bool) → pos (if b then 1 else 0) ≡ (if b then pos 1 else pos 0)
unit_part true = refl
unit_part false = refl

-- a live point as a row
pub live_row : (n : ℕ) (x : List ℕ) (i : ℕ) → i < 4 → row_of (live_parts n x) i ≡ masked n (row_of x) i
live_row n x i h =
    by_place (λ i. row_of (live_parts n x) i ≡ masked n (row_of x) i) (part (nat_lt 0 n) (slice_index x 0)) (part (nat_lt 1 n) (slice_index x 1)) (part (nat_lt 2 n) (slice_index x 2)) (part (nat_lt 3 n) (slice_index x 3)) i h

unit_row : (k i : ℕ) → i < 4 → row_of (unit_parts k) i ≡ (if nat_eq k i then pos 1 else pos 0)
unit_row k i h =
    by_place (λ i. row_of (unit_parts k) i ≡ (if nat_eq k i then pos 1 else pos 0)) (unit_part (nat_eq k 0)) (unit_part (nat_eq k 1)) (unit_part (nat_eq k 2)) (unit_part (nat_eq k 3)) i h

row_entry : (n : ℕ) (cols : List Column) (at : List ℕ) (r c : ℕ) → c < 4 → (b : Bool) → nat_lt r n ≡ b → row_of (row_parts n cols at r) c ≡ filled n (system cols at) r c
row_entry n cols at r c h true e = rw e (live_row n (column_at cols (slice_index at r)).comp c h)
row_entry n cols at r c h false e = rw e (unit_row r c h)

-- the four rows of a basis
abbrev pub basis_rows : ℕ → List Column → List ℕ → ℕ → ℕ → ℤ
basis_rows n cols at = rows_in (row_parts n cols at 0) (row_parts n cols at 1) (row_parts n cols at 2) (row_parts n cols at 3)

pub basis_entry : (n : ℕ) (cols : List Column) (at : List ℕ) (r c : ℕ) → r < 4 → c < 4 → basis_rows n cols at r c ≡ filled n (system cols at) r c
basis_entry n cols at r c h g =
    by_place (λ r. basis_rows n cols at r c ≡ filled n (system cols at) r c)
    (row_entry n cols at 0 c g (nat_lt 0 n) refl) (row_entry n cols at 1 c g (nat_lt 1 n) refl) (row_entry n cols at 2 c g (nat_lt 2 n) refl) (row_entry n cols at 3 c g (nat_lt 3 n) refl) r h

-- ---- frames of matrices that are the same
abbrev listed : (ℕ → ℕ → ℤ) → List ℤ
listed m = m 0 0 ∷ m 0 1 ∷ m 0 2 ∷ m 0 3 ∷ m 1 0 ∷ m 1 1 ∷ m 1 2 ∷ m 1 3 ∷ m 2 0 ∷ m 2 1 ∷ m 2 2 ∷ m 2 3 ∷ m 3 0 ∷ m 3 1 ∷ m 3 2 ∷ m 3 3 ∷ []

abbrev unlisted : List ℤ → ℕ → ℕ → ℤ
unlisted l r c = slice_index_or l (4 * r + c) (pos 0)

by_list : (m : ℕ → ℕ → ℤ) → determinant 4 m ≡ determinant 4 (unlisted (listed m))
unfolding determinant int_sum_below
by_list m = refl

pub determinant-same : (m p : ℕ → ℕ → ℤ) → ((r c : ℕ) → r < 4 → c < 4 → m r c ≡ p r c) → determinant 4 m ≡ determinant 4 p
determinant-same m p h =
    let same : listed m ≡ listed p =
    rw (
      e 0 0 (omega arith) (omega arith),
      e 0 1 (omega arith) (omega arith),
      e 0 2 (omega arith) (omega arith),
      e 0 3 (omega arith) (omega arith),
      e 1 0 (omega arith) (omega arith),
      e 1 1 (omega arith) (omega arith),
      e 1 2 (omega arith) (omega arith),
      e 1 3 (omega arith) (omega arith),
      e 2 0 (omega arith) (omega arith),
      e 2 1 (omega arith) (omega arith),
      e 2 2 (omega arith) (omega arith),
      e 2 3 (omega arith) (omega arith),
      e 3 0 (omega arith) (omega arith),
      e 3 1 (omega arith) (omega arith),
      e 3 2 (omega arith) (omega arith),
      e 3 3 (omega arith) (omega arith),
    ) refl in
    by_list m ∙ ap (λ l. determinant 4 (unlisted l)) same ∙ sym (by_list p)
  where
    e : (r c : ℕ) → r < 4 → c < 4 → m r c ≡ p r c
    e = h

pub with_same : (b : Bool) (x y z : ℤ) → y ≡ z → (if b then x else y) ≡ (if b then x else z)
with_same true x y z h = refl
with_same false x y z h = h

replaced-same : (m p : ℕ → ℕ → ℤ) (k : ℕ) (x : ℕ → ℤ) → ((r c : ℕ) → r < 4 → c < 4 → m r c ≡ p r c) → determinant 4 (with_row k x m) ≡ determinant 4 (with_row k x p)
replaced-same m p k x h = determinant-same (with_row k x m) (with_row k x p) (λ r c g l. with_same (nat_eq r k) (x c) (m r c) (p r c) (h r c g l))

pub frame-same : (m p : ℕ → ℕ → ℤ) (s : ℕ) (a b c d : List ℤ) → ((r c : ℕ) → r < 4 → c < 4 → m r c ≡ p r c) → IsFrame m s a b c d → IsFrame p s a b c d
frame-same m p s a b c d h f =
    let e = determinant-same m p h in
    record {
      size_is = f.size_is ∙ ap unsigned_abs e;
      first = λ x. f.first x ∙ rw (e, replaced-same m p 0 x h) refl;
      second = λ x. f.second x ∙ rw (e, replaced-same m p 1 x h) refl;
      third = λ x. f.third x ∙ rw (e, replaced-same m p 2 x h) refl;
      fourth = λ x. f.fourth x ∙ rw (e, replaced-same m p 3 x h) refl;
    }

-- ---- along a point a frame has the amounts
unfoldable pub nth : List ℤ → List ℤ → List ℤ → List ℤ → ℕ → List ℤ
nth a b c d zero = a
nth a b c d (suc zero) = b
nth a b c d (suc (suc zero)) = c
nth a b c d (suc (suc (suc k))) = d

frame_at : (m : ℕ → ℕ → ℤ) (s : ℕ) (a b c d : List ℤ) → IsFrame m s a b c d → (x : ℕ → ℤ) (k : ℕ) → k < 4 →
    along (nth a b c d k) x ≡ signed_by (determinant 4 m) (determinant 4 (with_row k x m))
unfolding nth
frame_at m s a b c d f x k h =
    by_place (λ k. along (nth a b c d k) x ≡ signed_by (determinant 4 m) (determinant 4 (with_row k x m))) (f.first x) (f.second x) (f.third x) (f.fourth x) k h

module _ (n : ℕ) (low : 1 ≤ n) (high : n ≤ 4) (m : ℕ → ℕ → ℤ) (s : ℕ) (a b c d : List ℤ) (f : IsFrame (filled n m) s a b c d) where
  pub frame_size : s ≡ size n m
  frame_size = f.size_is ∙ ap unsigned_abs (sym (filled-determinant n low high m))

  pub frame_amount : (x : ℕ → ℤ) (k : ℕ) → k < n → along (nth a b c d k) (masked n x) ≡ amount n m x k
  frame_amount x k h =
      frame_at (filled n m) s a b c d f (masked n x) k (omega (arith, h, high))
      ∙ rw (filled-determinant n low high m, with_row-filled n low high m x k h) refl

-- ---- along a live point
along_same : (a : List ℤ) (x y : ℕ → ℤ) → ((i : ℕ) → i < 4 → x i ≡ y i) → along a x ≡ along a y
unfolding along
along_same a x y h = sum-same 4 (λ i. slice_index_or a i (pos 0) *ℤ x i) (λ i. slice_index_or a i (pos 0) *ℤ y i) (λ i g. rw (h i g) refl)

pub along_live : (a : List ℤ) (n : ℕ) (x : List ℕ) → along a (row_of (live_parts n x)) ≡ along a (masked n (row_of x))
along_live a n x = along_same a (row_of (live_parts n x)) (masked n (row_of x)) (live_row n x)

-- ---- what amounts cost
pub from_nothing : (a b c d : ℤ) → ((a +ℤ b) +ℤ c) +ℤ d ≡ (((pos 0 +ℤ a) +ℤ b) +ℤ c) +ℤ d
from_nothing a b c d = omega (arith, ints)

paid_sum : (a b c d l : List ℤ) (x : ℕ → ℤ) → paid a b c d l x ≡ int_sum_below 4 (λ k. along (nth a b c d k) x *ℤ slice_index_or l k (pos 0))
unfolding nth int_sum_below
paid_sum a b c d l x =
    from_nothing (along a x *ℤ slice_index_or l 0 (pos 0)) (along b x *ℤ slice_index_or l 1 (pos 0)) (along c x *ℤ slice_index_or l 2 (pos 0)) (along d x *ℤ slice_index_or l 3 (pos 0))

cost_entry : (n : ℕ) (cols : List Column) (at : List ℕ) (k : ℕ) → k < 4 → slice_index_or (live_costs n cols at) k (pos 0) ≡ live_cost n cols at k
cost_entry n cols at k h = by_place (λ k. slice_index_or (live_costs n cols at) k (pos 0) ≡ live_cost n cols at k) refl refl refl refl k h

module _ (n : ℕ) (low : 1 ≤ n) (high : n ≤ 4) (cols : List Column) (at : List ℕ) (s : ℕ) (a b c d : List ℤ) (f : IsFrame (filled n (system cols at)) s a b c d) where
  pub paid_is : (x : ℕ → ℤ) → paid a b c d (live_costs n cols at) (masked n x) ≡ int_sum_below n (λ k. amount n (system cols at) x k *ℤ costs_of cols at k)
  paid_is x =
      paid_sum a b c d (live_costs n cols at) (masked n x)
      ∙ sum-cut n low high (λ k. along (nth a b c d k) (masked n x) *ℤ slice_index_or (live_costs n cols at) k (pos 0)) (λ k. amount n (system cols at) x k *ℤ costs_of cols at k)
      (λ k h. rw (frame_amount n low high (system cols at) s a b c d f x k h, cost_entry n cols at k (omega (arith, h, high)), lt-ltb k n h) refl)
      (λ k h g. rw (cost_entry n cols at k g, le-ltb k n h) (times_nothing (along (nth a b c d k) (masked n x))))

  pub price_is : (col : Column) → 0 < size n (system cols at) →
      pos s *ℤ col.cost -ℤ paid a b c d (live_costs n cols at) (row_of (live_parts n col.comp)) ≡ price n (system cols at) (costs_of cols at) (composition col) col.cost
  price_is col spans =
      rw (along_live a n col.comp, along_live b n col.comp, along_live c n col.comp, along_live d n col.comp, paid_is (row_of col.comp), plane_at_row n low high (system cols at) (costs_of cols at) (row_of col.comp) spans, frame_size n low high (system cols at) s a b c d f) refl

-- along a unit
unit_same : (n i : ℕ) → i < n → (k : ℕ) (b : Bool) → nat_eq i k ≡ b → (if nat_eq i k then pos 1 else pos 0) ≡ masked n (λ k. pos (if nat_eq k i then 1 else 0)) k
unit_same n i h k true e = rw (lt-ltb k n (at_place i k e h), turned_test i k e, e) refl
  where
    at_place : (i k : ℕ) → nat_eq i k ≡ true → i < n → k < n
    at_place i k e h = grind (arith, nat_tests)

    turned_test : (i k : ℕ) → nat_eq i k ≡ true → nat_eq k i ≡ true
    turned_test i k e = grind (arith, nat_tests)
unit_same n i h k false e = rw (e, turned_test i k e) (nothing (nat_lt k n))
  where
    turned_test : (i k : ℕ) → nat_eq i k ≡ false → nat_eq k i ≡ false
    turned_test i k e = grind (arith, nat_tests)

    nothing : (b : Bool) → pos 0 ≡ (if b then pos 0 else pos 0)
    nothing true = refl
    nothing false = refl

pub along_unit : (a : List ℤ) (n i : ℕ) → i < n → along a (row_of (unit_parts i)) ≡ along a (masked n (λ k. pos (if nat_eq k i then 1 else 0)))
along_unit a n i h =
    along_same a (row_of (unit_parts i)) (masked n (λ k. pos (if nat_eq k i then 1 else 0))) (λ k g. unit_row i k g ∙ unit_same n i h k (nat_eq i k) refl)
