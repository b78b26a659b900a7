pub mod Sound
pub mod Spaces
pub mod Constants
pub mod Instantiation
pub mod Matching
pub mod Exported
