pub mod Work
pub mod Resources
pub mod Moments
