pub mod Tests
pub mod Judging
pub mod Certificates
pub mod Converse
pub mod Streams
pub mod Checking
pub mod Kept
