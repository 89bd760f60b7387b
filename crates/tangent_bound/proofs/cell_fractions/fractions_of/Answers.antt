use Rattle.std.proofs.Common.{◌*◌, ◌^◌, slice_index, refl}
use Rattle.case_types.specs.Grid.Cells.{region_of, middle_point}
use Rattle.log_laws.proofs.Exports.{get_or-list_below}
use Rattle.tangent_bound.proofs.cell_fractions.fractions_of.Goals as goal

pub returns : goal.returns
returns c = λ r lo hi. record {
  ends = rw (c.cell_box.ensures.lo, c.cell_box.ensures.hi, lo, hi) refl;
  middle = λ i h. rw (c.middle_fractions.ensures.at, lo, hi) (get_or-list_below 4 (λ k. slice_index (middle_point c.args.n (region_of c.args.cell.now)).composition k * 2 ^ 20) 0 i h);
}
