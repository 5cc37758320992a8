pub mod Acceptance
pub mod Bonds
pub mod Chains
pub mod Configuration
pub mod Draft
pub mod Occupants
pub mod Sweeping
