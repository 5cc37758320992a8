pub mod CountLemmas
pub mod PlaceLemmas
pub mod ShellLemmas
pub mod TallyLemmas
pub mod SizeLemmas
pub mod TouchLemmas
