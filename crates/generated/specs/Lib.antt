pub mod Bytes
pub mod Generated
pub mod Scripts
