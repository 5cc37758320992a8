pub mod Beside
pub mod Keeping
pub mod Spots
pub mod Tracking
