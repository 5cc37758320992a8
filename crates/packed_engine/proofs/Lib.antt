pub mod BesideLemmas
pub mod FoldedLemmas
pub mod OwnerLemmas
pub mod PlaceLemmas
pub mod SiteLemmas
pub mod SpotLemmas
pub mod StepLemmas
pub mod WeightLemmas
