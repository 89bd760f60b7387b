pub mod Components
pub mod Parts
pub mod Phases
