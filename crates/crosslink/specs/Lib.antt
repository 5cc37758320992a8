pub mod Linking
pub mod Log
