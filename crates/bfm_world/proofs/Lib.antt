pub mod BondLemmas
pub mod ChainLemmas
pub mod OverlapLemmas
pub mod PartLemmas
pub mod ReachLemmas
pub mod SiteLemmas
pub mod StartLemmas
mod SweepingExamples
pub mod SweepingLemmas
pub mod ValidLemmas
pub mod VectorLemmas
