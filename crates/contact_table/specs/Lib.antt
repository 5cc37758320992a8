pub mod Contacts
pub mod Entries
