pub mod Walks
pub mod WorkLaws
pub mod WeakDuality
pub mod Certify
pub mod Exports
