pub mod Lists
pub mod Halvings
pub mod Widest
pub mod Spread
pub mod PlaneEnds
pub mod Middles
