pub mod Excess
pub mod MiddleEnds
pub mod Roots
