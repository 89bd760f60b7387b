pub mod Cover
pub mod Walks
pub mod PlaneBound
pub mod InBox
pub mod CellLow
pub mod BoxOfParts
pub mod SplitBound
pub mod Samples
mod ByNumbers
mod Refusals
mod Splits
mod Trees
mod Exact
pub mod States
pub mod Totals
pub mod SameNumbers
pub mod SameSplits
pub mod SamePlanes
pub mod SmallParts
pub mod Exports
