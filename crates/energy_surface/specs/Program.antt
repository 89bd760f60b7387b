-- The exact linear program of one to four components: columns, bases, prices, pivots, planes and splits.
pub mod Determinants
pub mod Solutions
pub mod Bases
pub mod Pivots
pub mod Planes
pub mod Splits
