pub mod Room
pub mod Noted
pub mod Guessing
pub mod Rivals
pub mod Choices
pub mod Polished
pub mod Flashing
pub mod Answering
