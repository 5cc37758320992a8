pub mod KindLemmas
pub mod ListLemmas
pub mod PairLemmas
pub mod TableLemmas
pub mod UsualLemmas
