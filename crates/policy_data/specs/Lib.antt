pub mod Addresses
pub mod Limits
pub mod Sizes
pub mod Words
