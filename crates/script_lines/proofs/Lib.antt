pub mod Added
pub mod Floats
pub mod Places
pub mod Views
