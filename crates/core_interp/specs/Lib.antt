pub mod Groups
pub mod Rest
pub mod Valid
pub mod Jumping
pub mod Plains
pub mod Run
pub mod Straight
pub mod Session
