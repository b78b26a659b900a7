pub mod Merged
pub mod Sources
pub mod Plugged
