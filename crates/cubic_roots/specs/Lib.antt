pub mod Pressures
pub mod Middles
