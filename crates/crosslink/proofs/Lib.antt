pub mod LinkLemmas
pub mod PlaceLemmas
