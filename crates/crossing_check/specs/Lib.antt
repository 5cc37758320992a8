pub mod Passage
pub mod Verdict
