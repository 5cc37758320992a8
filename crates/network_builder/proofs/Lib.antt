pub mod CellLemmas
pub mod GeometryLemmas
pub mod JoinLemmas
pub mod NetworkLemmas
pub mod NodeLemmas
pub mod RowLemmas
pub mod StrandLemmas
