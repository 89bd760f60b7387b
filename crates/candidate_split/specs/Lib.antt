pub mod Grid
pub mod Points
pub mod TwoPhases
pub mod Phases
pub mod Columns
pub mod Candidates
pub mod Levels
