pub mod Feeds
pub mod Scanned
