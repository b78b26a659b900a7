pub mod Putting
pub mod Refusals
