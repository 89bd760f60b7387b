pub mod Terms
pub mod MixingHigh
pub mod EnergyHigh
pub mod Exports
