-- The split that a round chooses: its energy, and that it divides the feed.
use Rattle.std.proofs.Common.{◌≡◌, ℕ, zero, suc, ◌*◌, ◌^◌, ◌<◌, ◌≤◌, Bool, true, false, List, [], ◌∷◌, ◌++◌, length, ℤ, pos, ◌+ℤ◌, slice_index, refl, ap, sym, ◌∙◌, arith}
use Rattle.std.specs.Prelude.{nat_eq, IfSome, slice_get}
use Rattle.std.specs.List.{All}
use Rattle.std.proofs.Math.Nat.{mul-pos}
use Rattle.std.proofs.lemmas.Int.{ints}
use Rattle.std.proofs.lemmas.List.{append-nil}
use Rattle.std.proofs.lemmas.List.Elements.{All-head, All-tail}
use Rattle.log_laws.specs.Sums.{sum_below, int_sum_below}
use Rattle.case_types.specs.declared.cases.Case.{Case}
use Rattle.case_types.specs.declared.phases.Phase.{Phase}
use Rattle.case_types.specs.declared.phases.Split.{Split}
use Rattle.case_types.specs.declared.rounds.Column.{Column}
use Rattle.case_types.specs.Arithmetic.Splits.{share_of_energy, phases_up, split_up}
use Rattle.case_types.proofs.Exports.{total_positive}
use Rattle.energy_surface.specs.Columns.{IsColumn}
use Rattle.energy_surface.specs.Program.Bases.{no_column, column_at, system, AreColumns, IsBasis}
use Rattle.energy_surface.specs.Program.Solutions.{size}
use Rattle.energy_surface.specs.Program.Splits.{weighted_phase, weighted_phases, weight_of, phases_below}
use Rattle.energy_surface.specs.Rounds.{basis_up}
use Rattle.energy_surface.specs.Surfaces.{Surface}
use Rattle.exact_lp.proofs.Exports.{spans_above, up_of_column, phases_small, phases_up-append, basis_split_divides, live_parts_sum, some_weight}
use Rattle.surface_rounds.specs.declared.choices.Choice.{Choice}
use Rattle.surface_rounds.specs.declared.choices.Choice.TheVariants as Choices
use Rattle.surface_rounds.specs.declared.splits.Rival.{Rival}
use Rattle.split_energies.proofs.Exports.{no_share}
use Rattle.surface_rounds.specs.Choices.{columns_up, energy_of, IsPlace, IsSplitBy}
use Rattle.surface_rounds.specs.Guessing.{IsGuess}
use Rattle.surface_rounds.specs.Rivals.{energy_at, IsRival}
use Rattle.std.proofs.lemmas.Bool.{eqb-true}

-- ---- the energy of the split of a basis
module _ (s : Surface) (c : Case) (cols : List Column) (at : List ℕ) (count : s.count ≡ c.n) (basis : IsBasis c cols at) (good : All (λ (col : Column). IsColumn s col) cols) where
  whole_some : 0 < c.total * size c.n (system cols at)
  whole_some = mul-pos (total_positive c) (spans_above c cols at basis)

  no_more : (z : ℤ) → z ≡ z +ℤ pos 0
  no_more z = omega (arith, ints)

  -- one column more of the basis
  one_more : (k : ℕ) (b : Bool) → nat_eq (weight_of c cols at k) 0 ≡ b → k < c.n → (fs : List Phase) →
      phases_up s.count s.up (c.total * size c.n (system cols at)) (fs ++ weighted_phases c.n (weight_of c cols at k) (column_at cols (slice_index at k)))
      ≡ phases_up s.count s.up (c.total * size c.n (system cols at)) fs
      +ℤ share_of_energy (weight_of c cols at k * 2 ^ 20) (c.total * size c.n (system cols at)) (column_at cols (slice_index at k)).up
  one_more k true e h fs =
      let q = c.total * size c.n (system cols at) in
      rw (e, append-nil fs, eqb-true (weight_of c cols at k) 0 e, no_share q (column_at cols (slice_index at k)).up whole_some) (no_more (phases_up s.count s.up q fs))
  one_more k false e h fs =
      let q = c.total * size c.n (system cols at) in
      let w = weight_of c cols at k in
      let col = column_at cols (slice_index at k) in
      let is = good (slice_index at k) no_column (basis.inside k h) in
      let some : 1 ≤ w = omega (arith, some_weight w e) in
      let light : sum_below s.count (slice_index (weighted_phase c.n w col).parts) ≡ w * 2 ^ 20 =
      rw count (live_parts_sum c.n c.some c.few w col.comp ∙ ap (λ (t : ℕ). w * t) (rw count at is.point.whole)) in
      rw e (phases_up-append s.count s.up q fs (weighted_phase c.n w col)
      ∙ ap (λ (t : ℤ). phases_up s.count s.up q fs +ℤ t) (rw (up_of_column s c.n w col count c.some c.few some is, light) refl))

  phases_are_shares : (k : ℕ) → k ≤ c.n →
      int_sum_below k (λ k. share_of_energy (weight_of c cols at k * 2 ^ 20) (c.total * size c.n (system cols at)) (column_at cols (slice_index at k)).up)
      ≡ phases_up s.count s.up (c.total * size c.n (system cols at)) (phases_below c cols at k)
  unfolding int_sum_below phases_up phases_below
  phases_are_shares zero h = refl
  phases_are_shares (suc k) h =
      ap (λ (t : ℤ). t +ℤ share_of_energy (weight_of c cols at k * 2 ^ 20) (c.total * size c.n (system cols at)) (column_at cols (slice_index at k)).up) (phases_are_shares k (omega (arith, h)))
      ∙ sym (one_more k (nat_eq (weight_of c cols at k) 0) refl (omega (arith, h)) (phases_below c cols at k))

pub columns_up_is : (s : Surface) (c : Case) (cols : List Column) (at : List ℕ) → s.count ≡ c.n → IsBasis c cols at → All (λ (col : Column). IsColumn s col) cols →
    columns_up c cols at ≡ basis_up s c cols at
columns_up_is s c cols at count basis good = phases_are_shares s c cols at count basis good c.n (omega arith)

-- ---- the split that is chosen
-- what is known of the rival at a place
record Taken (s : Surface) (c : Case) (split : Split) (energy : ℤ) : Type 0 where
  pub guess : IsGuess s c split
  pub up : energy ≡ split_up s.count s.up split

taken : (s : Surface) (c : Case) (rivals : List Rival) (k : ℕ) (split : Split) → All (IsRival s c) rivals → k < length rivals → IfSome (slice_get rivals k) (λ r. split ≡ r.split) →
    Taken s c split (energy_at rivals k)
taken s c [] k split all inside is = absurd (omega (arith, inside))
taken s c (r ∷ rs) zero split all inside is =
    let first = All-head (IsRival s c) r rs all in
    rw is (record { guess = first.guess; up = first.energy })
taken s c (r ∷ rs) (suc k) split all inside is = taken s c rs k split (All-tail (IsRival s c) r rs all) (omega (arith, inside)) is

module _ (s : Surface) (c : Case) (cols : List Column) (at : List ℕ) (rivals : List Rival) (count : s.count ≡ c.n) (basis : IsBasis c cols at) (good : All (λ (col : Column). IsColumn s col) cols)
    (are : All (IsRival s c) rivals) where
  pub split_by_guess : (choice : Choice) (split : Split) → AreColumns c.n cols → IsPlace rivals choice → IsSplitBy c cols at rivals choice split → IsGuess s c split
  split_by_guess (Choices.Rival k) split all inside is = (taken s c rivals k split are inside is).guess
  split_by_guess Choices.OfBasis split all inside is = record {
    divides = basis_split_divides c cols at split all basis is;
    shallow = rw is.phases (phases_small s c cols at count basis good);
  }

  -- its energy is the one that is chosen
  pub split_by_energy : (choice : Choice) (split : Split) → IsPlace rivals choice → IsSplitBy c cols at rivals choice split →
      energy_of rivals (columns_up c cols at) choice ≡ split_up s.count s.up split
  split_by_energy (Choices.Rival k) split inside is = (taken s c rivals k split are inside is).up
  split_by_energy Choices.OfBasis split inside is =
      columns_up_is s c cols at count basis good ∙ sym (ap (λ q. phases_up s.count s.up q split.phases.items) is.sum ∙ ap (phases_up s.count s.up (c.total * size c.n (system cols at))) is.phases)
