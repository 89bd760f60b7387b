-- The columns that a flash keeps are columns of a linear program.
use Rattle.std.proofs.Common.{◌≡◌, ℕ, zero, suc, ◌^◌, ◌<◌, ◌≤◌, List, length, ℤ, pos, negsuc, ◌+ℤ◌, ◌*ℤ◌, neg_ℤ, ◌≤ℤ◌, ◌<ℤ◌, unsigned_abs, slice_index, refl, arith, lit<}
use Rattle.std.specs.Prelude.{if◌then◌else◌, nat_eq}
use Rattle.std.specs.List.{All}
use Rattle.std.proofs.lemmas.Int.{ints}
use Rattle.log_laws.specs.Whole.{ceil_div, floor_over}
use Rattle.log_laws.proofs.Exports.{le-ceil_over, lt-floor_over, neg-mul}
use Rattle.case_types.specs.declared.rounds.Column.{Column}
use Rattle.energy_surface.specs.Columns.{IsColumn}
use Rattle.energy_surface.specs.Lawful.{pure_composition}
use Rattle.energy_surface.specs.Program.Bases.{no_column, column_at, AreColumns}
use Rattle.energy_surface.specs.Surfaces.{Surface}
use Rattle.exact_lp.proofs.DeterminantRules.{by_place}
use Rattle.exact_lp.proofs.StartBasis.{turned_test}

-- ---- costs
-- energies below 2^49 have costs of at most 2^39
pub cost_small : (up : ℤ) → unsigned_abs up < 2 ^ 49 → unsigned_abs (ceil_div up (pos (2 ^ 10))) ≤ 2 ^ 39
cost_small (pos zero) h = omega arith
cost_small (pos (suc a)) h = omega (arith, ints, h)
cost_small (negsuc a) h = omega (arith, ints, h)

-- a cost is the energy, rounded up by less than 2^10
pub up_under_cost : (s : Surface) (col : Column) → IsColumn s col → col.up ≤ℤ (col.cost *ℤ pos (2 ^ 10))
up_under_cost s col good = rw good.cost (le-ceil_over col.up (2 ^ 10) (lit< tt))

pub ceiling_above : (z : ℤ) (d : ℕ) → 0 < d → (neg_ℤ (floor_over (neg_ℤ z) d) *ℤ pos d) <ℤ (z +ℤ pos d)
ceiling_above z d h = rw (neg-mul (floor_over (neg_ℤ z) d) (pos d)) (omega (arith, ints, lt-floor_over (neg_ℤ z) d h))

pub cost_near_up : (s : Surface) (col : Column) → IsColumn s col → (col.cost *ℤ pos (2 ^ 10)) <ℤ (col.up +ℤ pos (2 ^ 10))
cost_near_up s col good = rw good.cost (ceiling_above col.up (2 ^ 10) (lit< tt))

-- ---- the columns of a flash
pure_entry : (k i : ℕ) → i < 4 → slice_index (pure_composition k) i ≡ (if nat_eq i k then 2 ^ 20 else 0)
pure_entry k i h =
    by_place (λ i. slice_index (pure_composition k) i ≡ (if nat_eq i k then 2 ^ 20 else 0)) (tested 0) (tested 1) (tested 2) (tested 3) i h
  where
    tested : (i : ℕ) → (if nat_eq k i then 2 ^ 20 else 0) ≡ (if nat_eq i k then 2 ^ 20 else 0)
    tested i = rw (turned_test i k) refl

-- the first n are pure
pub columns_kept : (s : Surface) (n : ℕ) (cols : List Column) → s.count ≡ n → n ≤ 4 → length cols < 2 ^ 32 → n ≤ length cols →
    All (λ (col : Column). IsColumn s col) cols → ((k : ℕ) → k < n → (column_at cols k).comp ≡ pure_composition k) → AreColumns n cols
columns_kept s n cols count high few enough good pure = record {
  few = few;
  points = λ j h. rw (← count) (good j no_column h).point;
  costs = λ j h. rw (good j no_column h).cost (cost_small (column_at cols j).up (good j no_column h).small);
  enough = enough;
  pure = λ k i h g. rw (pure k h) (pure_entry k i (omega (arith, g, high)));
}
