pub mod Difference
pub mod Meeting
pub mod Stretch
pub mod Upright
pub mod Walls
