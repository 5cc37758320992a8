pub mod Fractions
pub mod Molecules
pub mod Search
