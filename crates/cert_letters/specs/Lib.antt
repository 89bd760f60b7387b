pub mod Steps
pub mod Readings
pub mod Depth
pub mod Lines
pub mod Bounds
pub mod Searched
