pub mod VectorLemmas
pub mod GroupLemmas
pub mod SearchLemmas
pub mod MoleculeLemmas
pub mod JoinLemmas
