pub mod Sum
pub mod Shares
