-- The pure columns are a basis.
use Rattle.std.proofs.Common.{◌≡◌, ◌≢◌, ℕ, ◌*◌, ◌^◌, ◌<◌, ◌≤◌, Bool, true, false, List, ℤ, pos, ◌*ℤ◌, ◌-ℤ◌, ◌≤ℤ◌, slice_index, refl, ap, sym, ◌∙◌, arith}
use Rattle.std.specs.Prelude.{if◌then◌else◌, nat_eq, nat_lt}
use Rattle.std.proofs.lemmas.Int.{ints}
use Rattle.std.proofs.lemmas.Bool.Decides.{nat_tests}
use Rattle.log_laws.specs.Sums.{int_sum_below}
use Rattle.case_types.specs.declared.cases.Case.{Case}
use Rattle.case_types.specs.declared.rounds.Column.{Column}
use Rattle.energy_surface.specs.Program.Determinants.{determinant}
use Rattle.energy_surface.specs.Program.Bases.{column_at, composition, system, costs_of, feed_of, start_places, AreColumns, IsBasis}
use Rattle.energy_surface.specs.Program.Pivots.{IsPureOptimal}
use Rattle.energy_surface.specs.Program.Solutions.{size, amount, slope}
use Rattle.exact_lp.specs.Frames.{filled}
use Rattle.exact_lp.proofs.DeterminantRules.{by_count, by_place, filled-determinant}
use Rattle.exact_lp.proofs.Systems.{amounts_make, slopes_meet}
use Rattle.exact_lp.proofs.SlopeBounds.{pure_sum}
use Rattle.exact_lp.proofs.LiveParts.{determinant-same}
use Rattle.std.proofs.lemmas.Bool.{ltb-true}

-- the system of the pure columns
pure : ℕ → ℕ → ℤ
pure k i = pos (if nat_eq i k then 2 ^ 20 else 0)

pub at_start : (k : ℕ) → k < 4 → slice_index start_places k ≡ k
at_start k h = by_place (λ k. slice_index start_places k ≡ k) refl refl refl refl k h

pure_entry : (c : Case) (cols : List Column) → AreColumns c.n cols → (k i : ℕ) → k < c.n → i < c.n → system cols start_places k i ≡ pure k i
unfolding pure
pure_entry c cols good k i h g = rw (at_start k (omega (arith, h, c.few))) (ap pos (good.pure k i h g))

pub filled_same : (n : ℕ) (m p : ℕ → ℕ → ℤ) → ((k i : ℕ) → k < n → i < n → m k i ≡ p k i) → (r c : ℕ) (b d : Bool) → nat_lt r n ≡ b → nat_lt c n ≡ d → filled n m r c ≡ filled n p r c
filled_same n m p h r c true true e f = rw (e, f) (h r c (ltb-true r n e) (ltb-true c n f))
filled_same n m p h r c true false e f = rw (e, f) refl
filled_same n m p h r c false d e f = rw e refl

pure_spans : (n : ℕ) → 1 ≤ n → n ≤ 4 → determinant 4 (filled n pure) ≢ pos 0
unfolding determinant int_sum_below pure
pure_spans n low high =
    by_count (λ n. determinant 4 (filled n pure) ≢ pos 0) (λ e. absurd (omega (arith, ints, e))) (λ e. absurd (omega (arith, ints, e))) (λ e. absurd (omega (arith, ints, e))) (λ e. absurd (omega (arith, ints, e))) n low high

start_spans : (c : Case) (cols : List Column) → AreColumns c.n cols → determinant c.n (system cols start_places) ≢ pos 0
start_spans c cols good =
    rw (
      filled-determinant c.n c.some c.few (system cols start_places),
      determinant-same (filled c.n (system cols start_places)) (filled c.n pure) (λ r k g l. filled_same c.n (system cols start_places) pure (pure_entry c cols good) r k (nat_lt r c.n) (nat_lt k c.n) refl refl),
    )
    (pure_spans c.n c.some c.few)

nat_up : (a : ℤ) (b : ℕ) → a *ℤ pos (2 ^ 20) ≡ pos b → pos 0 ≤ℤ a
nat_up a b e = omega (arith, ints, e)

pub turned_test : (k i : ℕ) → nat_eq i k ≡ nat_eq k i
turned_test k i = tests (nat_eq i k) (nat_eq k i) refl refl
  where
    tests : (b d : Bool) → nat_eq i k ≡ b → nat_eq k i ≡ d → nat_eq i k ≡ nat_eq k i
    tests true d e f = grind (arith, nat_tests)
    tests false d e f = grind (arith, nat_tests)

start_feeds : (c : Case) (cols : List Column) → AreColumns c.n cols → (i : ℕ) → i < c.n → pos 0 ≤ℤ amount c.n (system cols start_places) (feed_of c) i
unfolding pure
start_feeds c cols good i h =
    let m = system cols start_places in
    let a = amount c.n m (feed_of c) in
    let e : a i *ℤ pos (2 ^ 20) ≡ pos (size c.n m) *ℤ feed_of c i =
    sym (pure_sum c.n a (λ k. m k i) (2 ^ 20) i h (λ k g. pure_entry c cols good k i g h ∙ ap (λ (b : Bool). pos (if b then 2 ^ 20 else 0)) (turned_test k i)))
    ∙ amounts_make c.n c.some c.few m (feed_of c) i h in
    nat_up (a i) (size c.n m * slice_index c.z i) e

pub start_is_basis : (c : Case) (cols : List Column) → AreColumns c.n cols → IsBasis c cols start_places
start_is_basis c cols good = record {
  inside = λ k h. rw (at_start k (omega (arith, h, c.few))) (omega (arith, h, good.enough));
  spans = start_spans c cols good;
  feeds = start_feeds c cols good;
}

-- ---- over the pure columns no pure column has a price
no_price : (s : ℕ) (cost y : ℤ) → y ≡ pos s *ℤ cost → pos 0 ≤ℤ (pos s *ℤ cost -ℤ y)
no_price s cost y e = rw e (nothing_left (pos s *ℤ cost))
  where
    nothing_left : (x : ℤ) → pos 0 ≤ℤ (x -ℤ x)
    nothing_left x = omega (arith, ints)

pub start_is_optimal : (c : Case) (cols : List Column) → AreColumns c.n cols → IsPureOptimal c.n cols start_places
start_is_optimal c cols good j h =
    let m = system cols start_places in
    let costs = costs_of cols start_places in
    let e : slice_index start_places j ≡ j = at_start j (omega (arith, h, c.few)) in
    let meets : int_sum_below c.n (λ i. slope c.n m costs i *ℤ m j i) ≡ pos (size c.n m) *ℤ costs j = slopes_meet c.n c.some c.few m costs j h in
    let l = slope c.n m costs in
    let rows : int_sum_below c.n (λ i. l i *ℤ composition (column_at cols j) i) ≡ int_sum_below c.n (λ i. l i *ℤ m j i) =
    ap (λ (k : ℕ). int_sum_below c.n (λ i. l i *ℤ composition (column_at cols k) i)) (sym e) in
    let cost : costs j ≡ (column_at cols j).cost = ap (λ (k : ℕ). (column_at cols k).cost) e in
    no_price (size c.n m) (column_at cols j).cost (int_sum_below c.n (λ i. l i *ℤ composition (column_at cols j) i)) (rows ∙ meets ∙ ap (λ (t : ℤ). pos (size c.n m) *ℤ t) cost)
