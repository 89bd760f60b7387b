pub mod Places
pub mod Halts
pub mod Phases
pub mod Fibres
pub mod Ends
pub mod PengRobinson
pub mod Listed
