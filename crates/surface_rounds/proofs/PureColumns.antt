-- The grid points and the columns of components alone.
use Rattle.std.proofs.Common.{◌≡◌, ℕ, zero, suc, ◌+◌, ◌^◌, ◌<◌, false, List, [], ◌∷◌, ◌++◌, length, inl, inr, slice_index, ℤ, ◌≤ℤ◌, refl, ap, sym, ◌∙◌, arith, length-append}
use Rattle.std.specs.Prelude.{◌≢◌, nat_eq}
use Rattle.std.proofs.lemmas.Int.{ints}
use Rattle.std.proofs.lemmas.Bool.{cases_lt}
use Rattle.std.proofs.lemmas.Bool.Decides.{nat_tests}
use Rattle.std.proofs.lemmas.List.Elements.{All-append, All-cons, All-nil}
use Rattle.log_laws.specs.Sums.{sum_below}
use Rattle.case_types.specs.declared.rounds.Column.{Column}
use Rattle.case_types.specs.Arithmetic.Bounds.{Box}
use Rattle.case_types.specs.Grid.Columns.{IsGridPoint, point_box}
use Rattle.energy_surface.specs.Columns.{IsColumn, point_up}
use Rattle.energy_surface.specs.Lawful.{pure_composition, IsPureColumn}
use Rattle.energy_surface.specs.Program.Bases.{column_at}
use Rattle.energy_surface.specs.Surfaces.{Surface}
use Rattle.exact_lp.proofs.Exports.{column_at-append}
use Rattle.split_energies.specs.declared.scans.Scanned.{Scanned}
use Rattle.surface_rounds.specs.Flashing.{ArePure}
use Rattle.split_energies.specs.Scanned.{IsInside}
use Rattle.split_energies.specs.Scanned.{state_at}
use Rattle.split_energies.proofs.Exports.{IsLowest}

-- ---- a sum of one number
nothing : (n : ℕ) (f : ℕ → ℕ) → ((i : ℕ) → i < n → f i ≡ 0) → sum_below n f ≡ 0
nothing zero f h = refl
nothing (suc n) f h = rw (nothing n f (λ i l. h i (omega (arith, l))), h n (omega arith)) refl

apart : (i k : ℕ) → i < k → i ≢ k
apart i k h e = absurd (omega (arith, h, e))

single : (n k x : ℕ) (f : ℕ → ℕ) → k < n → f k ≡ x → ((i : ℕ) → i ≢ k → f i ≡ 0) → sum_below n f ≡ x
single zero k x f h e z = absurd (omega (arith, h))
single (suc n) k x f h e z =
    elim (cases_lt k n) [
      | inl less ↦ rw (single n k x f less e z, z n (λ d. apart k n less (sym d))) (omega arith)
      | inr more ↦
          let d : n ≡ k = omega (arith, h, more) in
          rw (nothing n f (λ i l. z i (apart i k (omega (arith, l, d)))), d, e) (omega arith)
    ]

-- ---- the composition
unequal : (k i : ℕ) → i ≢ k → nat_eq k i ≡ false
unequal k i h = grind (arith, nat_tests, h)

alone_there : (k : ℕ) → k < 4 → slice_index (pure_composition k) k ≡ 2 ^ 20
alone_there zero h = refl
alone_there (suc zero) h = refl
alone_there (suc (suc zero)) h = refl
alone_there (suc (suc (suc zero))) h = refl
alone_there (suc (suc (suc (suc k)))) h = absurd (omega (arith, h))

nothing_else : (k i : ℕ) → i ≢ k → slice_index (pure_composition k) i ≡ 0
nothing_else k zero h = rw (unequal k 0 h) refl
nothing_else k (suc zero) h = rw (unequal k 1 h) refl
nothing_else k (suc (suc zero)) h = rw (unequal k 2 h) refl
nothing_else k (suc (suc (suc zero))) h = rw (unequal k 3 h) refl
nothing_else k (suc (suc (suc (suc i)))) h = refl

pub pure_whole : (n k : ℕ) → k < n → k < 4 → sum_below n (slice_index (pure_composition k)) ≡ 2 ^ 20
pure_whole n k h four = single n k (2 ^ 20) (slice_index (pure_composition k)) h (alone_there k four) (nothing_else k)

pub pure_point : (s : Surface) (k : ℕ) (comp : List ℕ) (y : ℕ) → k < s.count → k < 4 → comp ≡ pure_composition k → IsInside y →
    IsGridPoint s.count (record { composition = comp; packing = y })
pure_point s k comp y live four e inside = record {
  whole = rw e (pure_whole s.count k live four);
  rest = λ i h. rw e (nothing_else k i (λ d. absurd (omega (arith, live, h, d))));
  not_empty = inside.some;
  not_full = inside.less;
}

between : (a b c d : ℤ) → a ≡ b → b ≤ℤ c → c ≡ d → a ≤ℤ d
between a b c d h k l = omega (arith, ints, h, k, l)

-- its column lies no higher than at half the densest packing
pub pure_lies : (s : Surface) (k : ℕ) (comp : List ℕ) (x : Box) (half found : Scanned) (col : Column) → comp ≡ pure_composition k → x ≡ point_box comp →
    half ≡ state_at s x (2 ^ 39) → IsLowest s x half found → IsColumn s col → col.comp ≡ comp → col.packing ≡ found.packing → IsPureColumn s k col
pure_lies s k comp x half found col alone box last low is at packed = record {
  alone = at ∙ alone;
  no_higher = between col.up found.up half.up (point_up s (record { composition = pure_composition k; packing = 2 ^ 39 }))
      (is.up ∙ ap (λ (p : List ℕ). s.up (point_box p) col.packing) at ∙ ap (λ (y : ℕ). s.up (point_box comp) y) packed ∙ ap (λ (b : Box). s.up b found.packing) (sym box) ∙ sym low.up)
      low.no_higher
      (ap (λ (f : Scanned). f.up) last ∙ ap (λ (b : Box). s.up b (2 ^ 39)) box ∙ ap (λ (p : List ℕ). s.up (point_box p) (2 ^ 39)) alone);
}

-- ---- one pure column more
last_column : (cols : List Column) (col : Column) → column_at (cols ++ col ∷ []) (length cols) ≡ col
last_column [] col = refl
last_column (d ∷ cols) col = last_column cols col

pub pure_more : (s : Surface) (k : ℕ) (cols : List Column) (col : Column) → ArePure s k cols → IsColumn s col → IsPureColumn s k col → ArePure s (k + 1) (cols ++ col ∷ [])
pure_more s k cols col so good alone = record {
  columns = All-append (λ (col : Column). IsColumn s col) cols (col ∷ []) so.columns (All-cons (λ (col : Column). IsColumn s col) col [] good (All-nil (λ (col : Column). IsColumn s col)));
  counted = rw length-append (ap (λ (n : ℕ). n + 1) so.counted);
  pure = λ j h. elim (cases_lt j k) [
    | inl less ↦ rw (column_at-append cols col j (rw so.counted less)) (so.pure j less)
    | inr more ↦
        let e : j ≡ k = omega (arith, h, more) in
        rw (e, ← so.counted, last_column cols col) (rw so.counted alone)
  ];
}
