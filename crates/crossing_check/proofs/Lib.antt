pub mod BoxLemmas
pub mod MoveLemmas
pub mod PassageLemmas
pub mod PlaceLemmas
pub mod StretchLemmas
