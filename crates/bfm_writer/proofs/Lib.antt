mod BatchLemmas
mod ListingLemmas
mod RowLemmas
mod RowExamples
mod TableExamples
mod TableLemmas
pub mod RowPositions
