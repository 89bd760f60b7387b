-- A column as a phase of any weight has the box of its composition, and so the energy of the column.
use Rattle.std.proofs.Common.{◌≡◌, ℕ, ◌+◌, ◌-◌, ◌*◌, ◌^◌, ◌<◌, ◌≤◌, Bool, true, false, cond, List, [], ◌∷◌, length, map, unsigned_abs, slice_index, refl, ap, sym, ◌∙◌, arith}
use Rattle.std.specs.Prelude.{nat_eq, nat_lt, IsTrue}
use Rattle.std.specs.List.{All}
use Rattle.std.proofs.lemmas.Nat.{div-mul-add}
use Rattle.std.proofs.lemmas.List.Sums.{AllPass-from_list_all}
use Rattle.log_laws.specs.Sums.{sum_below, list_below}
use Rattle.case_types.specs.declared.cases.Case.{Case}
use Rattle.case_types.specs.declared.phases.Phase.{Phase}
use Rattle.case_types.specs.declared.rounds.Column.{Column}
use Rattle.case_types.specs.Arithmetic.Bounds.{one, share_down, share_up, box_of_parts}
use Rattle.case_types.specs.Arithmetic.Splits.{phase_up}
use Rattle.case_types.specs.Grid.Columns.{IsGridPoint, point_box, point_of}
use Rattle.case_types.proofs.Exports.{box_same}
use Rattle.energy_surface.specs.Columns.{IsColumn}
use Rattle.energy_surface.specs.Program.Bases.{no_column, column_at, IsBasis}
use Rattle.energy_surface.specs.Program.Splits.{live_part, weighted_phase, weight_of, phases_below}
use Rattle.energy_surface.specs.Surfaces.{Surface}
use Rattle.exact_lp.proofs.SplitOfBasis.{live_parts_sum, some_weight, phases_pass}
use Rattle.std.proofs.lemmas.Bool.{lt-ltb, ltb-true, ltb-false}

-- ---- a share is whole
whole_down : (w x m : ℕ) → 0 < m → m ≡ w * 2 ^ 20 → share_down one (w * x) m ≡ x * 2 ^ 20
whole_down w x m some e = let split : w * x * one ≡ x * 2 ^ 20 * m + 0 = rw e (omega arith) in rw split (div-mul-add (x * 2 ^ 20) m 0 some)

whole_up : (w x m : ℕ) → 0 < m → m ≡ w * 2 ^ 20 → share_up one (w * x) m ≡ x * 2 ^ 20
whole_up w x m some e =
    let split : w * x * one ≡ x * 2 ^ 20 * m = rw e (omega arith) in rw split (div-mul-add (x * 2 ^ 20) m (m - 1) (omega (arith, some)))

-- ---- the ends of the box
entry_whole : (share : ℕ → ℕ) (n w i : ℕ) (x : List ℕ) (b : Bool) → nat_lt i n ≡ b → share (w * slice_index x i) ≡ slice_index x i * 2 ^ 20 → (n ≤ i → slice_index x i ≡ 0) →
    cond (nat_lt i n) (share (live_part n w x i)) 0 ≡ slice_index x i * 2 ^ 20
entry_whole share n w i x true t e rest = rw t e
entry_whole share n w i x false t e rest = rw (t, rest (ltb-false i n t)) refl

four_same : (a b c d p q r s : ℕ) → a ≡ p → b ≡ q → c ≡ r → d ≡ s → (a ∷ b ∷ c ∷ d ∷ []) ≡ (p ∷ q ∷ r ∷ s ∷ [])
four_same a b c d p q r s e f g h = cc

four_of : (x : List ℕ) → length x ≡ 4 → (slice_index x 0 * 2 ^ 20 ∷ slice_index x 1 * 2 ^ 20 ∷ slice_index x 2 * 2 ^ 20 ∷ slice_index x 3 * 2 ^ 20 ∷ []) ≡ map (λ t. t * 2 ^ 20) x
four_of [] h = absurd (omega (arith, h))
four_of (a ∷ []) h = absurd (omega (arith, h))
four_of (a ∷ b ∷ []) h = absurd (omega (arith, h))
four_of (a ∷ b ∷ c ∷ []) h = absurd (omega (arith, h))
four_of (a ∷ b ∷ c ∷ d ∷ []) h = refl
four_of (a ∷ b ∷ c ∷ d ∷ e ∷ x) h = absurd (omega (arith, h))

ends_whole : (share : ℕ → ℕ) (n w : ℕ) (col : Column) → length col.comp ≡ 4 → ((i : ℕ) → share (w * slice_index col.comp i) ≡ slice_index col.comp i * 2 ^ 20) →
    ((i : ℕ) → n ≤ i → slice_index col.comp i ≡ 0) →
    list_below 4 (λ i. cond (nat_lt i n) (share (slice_index (weighted_phase n w col).parts i)) 0) ≡ map (λ t. t * 2 ^ 20) col.comp
unfolding list_below
ends_whole share n w col four h rest =
    let x = col.comp in
    let at = λ (i : ℕ). entry_whole share n w i x (nat_lt i n) refl (h i) (rest i) in
    four_same _ _ _ _ _ _ _ _ (at 0) (at 1) (at 2) (at 3) ∙ four_of x four

-- ---- the box
pub box_of_column : (n w : ℕ) (col : Column) → 1 ≤ n → n ≤ 4 → 1 ≤ w → length col.comp ≡ 4 → IsGridPoint n (point_of col) →
    box_of_parts n (weighted_phase n w col).parts ≡ point_box col.comp
box_of_column n w col low high some four point =
    let m = sum_below n (slice_index (weighted_phase n w col).parts) in
    let e : m ≡ w * 2 ^ 20 = live_parts_sum n low high w col.comp ∙ ap (λ (t : ℕ). w * t) point.whole in
    let above : 0 < m = omega (arith, e, some) in
    box_same _ _ (point_box col.comp)
    (ends_whole (λ p. share_down one p m) n w col four (λ i. whole_down w (slice_index col.comp i) m above e) point.rest)
    (ends_whole (λ p. share_up one p m) n w col four (λ i. whole_up w (slice_index col.comp i) m above e) point.rest)

-- so the upper energy is that of the column
pub up_of_column : (s : Surface) (n w : ℕ) (col : Column) → s.count ≡ n → 1 ≤ n → n ≤ 4 → 1 ≤ w → IsColumn s col →
    phase_up s.count s.up (weighted_phase n w col) ≡ col.up
up_of_column s n w col count low high some good =
    rw count (ap (λ x. s.up x col.packing) (box_of_column n w col low high some good.entries (rw count at good.point)))
    ∙ sym good.up

-- ---- the phases of a basis
pub phases_small : (s : Surface) (c : Case) (cols : List Column) (at : List ℕ) → s.count ≡ c.n → IsBasis c cols at →
    All (λ (col : Column). IsColumn s col) cols →
    All (λ (f : Phase). unsigned_abs (phase_up s.count s.up f) < 2 ^ 49) (phases_below c cols at c.n)
phases_small s c cols at count basis good k d l =
    ltb-true _ _ (AllPass-from_list_all (λ (f : Phase). nat_lt (unsigned_abs (phase_up s.count s.up f)) (2 ^ 49)) (phases_below c cols at c.n)
    (phases_pass (λ (f : Phase). nat_lt (unsigned_abs (phase_up s.count s.up f)) (2 ^ 49)) c cols at c.n passes) k d l)
  where
    passes : (j : ℕ) → j < c.n → nat_eq (weight_of c cols at j) 0 ≡ false →
        IsTrue (nat_lt (unsigned_abs (phase_up s.count s.up (weighted_phase c.n (weight_of c cols at j) (column_at cols (slice_index at j))))) (2 ^ 49))
    passes j h some =
        let inside = basis.inside j h in
        let col = good (slice_index at j) no_column inside in
        lt-ltb _ _ (rw (up_of_column s c.n (weight_of c cols at j) (column_at cols (slice_index at j)) count c.some c.few (some_weight (weight_of c cols at j) some) col) col.small)
