pub mod Batch
pub mod Header
pub mod Listing
pub mod Part
pub mod Rows
pub mod Text
