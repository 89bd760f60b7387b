pub mod Wanting
pub mod Headline
pub mod Ends
