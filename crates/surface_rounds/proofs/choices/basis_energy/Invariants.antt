use Rattle.std.proofs.Common.{◌≡◌, ◌*◌, ◌^◌, ◌≤◌, unsigned_abs, slice_index}
use Rattle.log_laws.specs.Sums.{int_sum_below}
use Rattle.case_types.specs.Arithmetic.Splits.{share_of_energy}
use Rattle.energy_surface.specs.Program.Bases.{column_at, system}
use Rattle.energy_surface.specs.Program.Solutions.{size}
use Rattle.energy_surface.specs.Program.Splits.{weight_of}
use Rattle.surface_rounds.proofs.choices.basis_energy.Given as goal

abbrev pub invariant-loop-k : goal.invariant-loop-k
invariant-loop-k l =
    let c = l.case in
    let cols = l.columns.items in
    let at = l.basis.at in
    record {
      whole : l.energy ≡ int_sum_below l.k (λ k. share_of_energy (weight_of c cols at k * 2 ^ 20) (c.total * size c.n (system cols at)) (column_at cols (slice_index at k)).up);
      small : unsigned_abs l.energy ≤ l.k * 2 ^ 107;
    }
