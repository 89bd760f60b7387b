-- The one door: what the proofs of crates above may cite.
pub use Rattle.case_types.proofs.BoxOfParts.{in_box_of_parts, parts_top, IsBox, parts_box}
pub use Rattle.case_types.proofs.CellLow.{low_is, box_same}
pub use Rattle.case_types.proofs.Cover.{in_half, in_root, meets_at, total, has-left, has-right}
pub use Rattle.case_types.proofs.InBox.{above_plane, in_box, none_above_one}
pub use Rattle.case_types.proofs.SmallParts.{part_small}
pub use Rattle.case_types.proofs.PlaneBound.{sums_ordered, plane_at_most}
pub use Rattle.case_types.proofs.SplitBound.{phases_at_most}
pub use Rattle.case_types.proofs.Totals.{total_positive}
pub use Rattle.case_types.proofs.Walks.{each-map, each-first, each-append, edges-append}
pub use Rattle.case_types.proofs.States.{state_of-is_state}
pub use Rattle.case_types.proofs.SameNumbers.{first_below-same, enclosures-same, numbers-same, fault-same}
pub use Rattle.case_types.proofs.SamePlanes.{plane_at-same, cell_low-same}
pub use Rattle.case_types.proofs.SameSplits.{phases_up-same, parts_in-same}
