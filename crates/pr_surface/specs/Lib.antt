pub mod PengRobinson
pub mod Bounding
