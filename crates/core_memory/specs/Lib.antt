pub mod Replaced
pub mod Page
pub mod Number
pub mod Linear
pub mod Pages
