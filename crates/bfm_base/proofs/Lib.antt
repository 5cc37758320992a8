pub mod GivenLemmas
pub mod PieceLemmas
pub mod SendLemmas
