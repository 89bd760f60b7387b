pub mod Decimals
pub mod Printed
pub mod Appending
