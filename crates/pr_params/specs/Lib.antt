pub mod Held
pub mod Packings
pub mod Kept
pub mod Entries
pub mod Rounding
pub mod Thermal
