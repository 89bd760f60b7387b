pub mod Takes
pub mod LiveNames
pub mod Wanting
pub mod Working
