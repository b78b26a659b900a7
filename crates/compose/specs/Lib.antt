pub mod Composed
pub mod Assembled
