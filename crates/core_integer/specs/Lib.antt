pub mod Operators
pub mod Integer
