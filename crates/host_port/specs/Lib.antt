pub mod Calls
pub mod Hosts
pub mod Untyped
pub mod Scripts
