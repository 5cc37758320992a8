pub mod Cursor
pub mod Cutter
pub mod Fields
pub mod Kinds
pub mod Lines
pub mod Numbers
pub mod Stage
