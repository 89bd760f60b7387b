pub mod Squares
pub mod SquaresUp
pub mod Width
pub mod Logs
pub mod Constants
pub mod Bounds
pub mod Exports
pub mod Raised
