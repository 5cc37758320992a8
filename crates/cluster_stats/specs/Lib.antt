pub mod Clusters
pub mod Contacts
pub mod Places
pub mod Rows
