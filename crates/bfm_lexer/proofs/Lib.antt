pub mod CutterLemmas
pub mod FieldLemmas
pub mod LinesLemmas
pub mod NumberLemmas
