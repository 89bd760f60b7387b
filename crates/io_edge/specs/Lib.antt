pub mod Causes
pub mod Bytes
pub mod InMemory
pub mod Reading
pub mod Writing
