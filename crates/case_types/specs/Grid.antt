-- Cells and trees of the search, what is said of walks over them, and grid points.
pub mod Cells
pub mod Columns
pub mod Visits
