pub mod Allowed
pub mod Seen
