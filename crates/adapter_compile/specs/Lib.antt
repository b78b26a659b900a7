pub mod Instructions
pub mod Bounds
pub mod Handles
pub mod Does
