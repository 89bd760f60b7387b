-- The one door: what the proofs of crates above may cite.
pub use Rattle.root_enclose.proofs.RootDigits.{floor_root_is}
pub use Rattle.root_enclose.proofs.Squares.{IsFloorRootOver, floor_root_over, floor-le-ceiling, ceiling_covers, ceiling_fits}
