pub mod Frames
pub mod Checked
pub mod Weighed
