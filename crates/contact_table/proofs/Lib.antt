pub mod ContactLemmas
pub mod EntryLemmas
