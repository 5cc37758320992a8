pub mod MeltLemmas
pub mod PlaceLemmas
pub mod WayLemmas
