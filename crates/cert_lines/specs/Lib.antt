pub mod Lines
pub mod Places
pub mod Forms
pub mod Heads
pub mod HeadTexts
pub mod Laws
pub mod Indices
