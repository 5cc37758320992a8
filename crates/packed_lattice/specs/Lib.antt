pub mod Cover
pub mod Cube
pub mod Owners
pub mod Packing
pub mod Sites
