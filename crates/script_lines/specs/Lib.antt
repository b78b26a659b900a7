pub mod Added
pub mod Lines
pub mod Shown
pub mod Shows
