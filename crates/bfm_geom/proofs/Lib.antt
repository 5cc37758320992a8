pub mod ContactLemmas
pub mod DifferenceLemmas
pub mod IntegerLemmas
pub mod MeetingLemmas
pub mod StretchLemmas
pub mod UprightLemmas
