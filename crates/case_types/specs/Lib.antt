pub mod Energy
pub mod Arithmetic
pub mod Grid
pub mod Spared
pub mod Ranges
pub mod Brackets
