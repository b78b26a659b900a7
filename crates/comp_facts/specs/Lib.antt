pub mod Handles
pub mod Needs
pub mod Measures
pub mod Primitives
pub mod Keys
pub mod Forms
pub mod Facts
