pub mod Arithmetic
pub mod Forms
pub mod Meaning
pub mod Ranges
pub mod Laws
