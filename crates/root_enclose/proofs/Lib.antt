pub mod RootDigits
pub mod Squares
pub mod Exports
