-- The parameters in whole numbers, and bounds of energies made of them.
pub mod Tables
pub mod Numbers
pub mod Faults
pub mod Bounds
pub mod Splits
pub mod Holding
pub mod Same
