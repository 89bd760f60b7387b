-- The one door: what the proofs of crates above may cite.
pub use Rattle.fix_interval.proofs.Between.{IsBetween-wider, IsBetween-same, IsBetween-sum_of, IsBetween-negated, IsBetween-difference, IsBetween-product_of, IsBetween-quotient_of}
pub use Rattle.fix_interval.proofs.Cancel.{floor_over-le-ceil_over}
pub use Rattle.fix_interval.proofs.Corners.{least_bounds, greatest_bounds}
pub use Rattle.fix_interval.proofs.Wrapped.{least_product_small, greatest_product_small}
