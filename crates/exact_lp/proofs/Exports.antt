-- The one door: what the proofs of crates above may cite.
pub use Rattle.exact_lp.proofs.AfterPivot.{spans_above, pivot_keeps}
pub use Rattle.exact_lp.proofs.KeptColumns.{cost_small, up_under_cost, cost_near_up, columns_kept}
pub use Rattle.exact_lp.proofs.ColumnPhases.{box_of_column, up_of_column, phases_small}
pub use Rattle.exact_lp.proofs.BasisEnergies.{basis_up_near}
pub use Rattle.exact_lp.proofs.FairPlanes.{plane_near_column, none_deeper}
pub use Rattle.exact_lp.proofs.FairRounds.{fair}
pub use Rattle.exact_lp.proofs.PhaseShares.{share_near, phases_up-append}
pub use Rattle.exact_lp.proofs.PivotSequences.{pivots-push, pivots_keep, column_at-append, basis_kept}
pub use Rattle.exact_lp.proofs.PlaneEntries.{slope_small}
pub use Rattle.exact_lp.proofs.PlanesUnderCosts.{plane_under_cost}
pub use Rattle.exact_lp.proofs.StartBasis.{start_is_basis, start_is_optimal}
pub use Rattle.exact_lp.proofs.SplitOfBasis.{basis_split_adds_up, basis_split_divides, live_parts_sum, some_weight, phase_has_packing}
pub use Rattle.exact_lp.proofs.WeighedAmounts.{plane_at_row}
