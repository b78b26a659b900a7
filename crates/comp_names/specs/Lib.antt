pub mod Labels
pub mod Names
pub mod Same
pub mod Seen
