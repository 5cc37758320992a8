pub mod Melt
