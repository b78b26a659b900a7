pub mod Once
pub mod Searches
pub mod Walked
