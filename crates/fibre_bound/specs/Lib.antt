pub mod Cells
pub mod Laws
pub mod Lows
pub mod OnePhase
pub mod Walks
