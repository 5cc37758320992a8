pub mod Account
pub mod Cause
pub mod Direction
pub mod Faults
pub mod Memory
pub mod Place
