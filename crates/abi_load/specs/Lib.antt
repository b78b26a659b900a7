pub mod Loaded
pub mod Lifted
