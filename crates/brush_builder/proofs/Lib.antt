pub mod BrushLemmas
pub mod FixLemmas
pub mod FootLemmas
