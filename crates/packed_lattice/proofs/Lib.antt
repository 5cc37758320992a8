pub mod CoverLemmas
pub mod CubeLemmas
pub mod FoldLemmas
pub mod OwnerLemmas
pub mod PackingLemmas
