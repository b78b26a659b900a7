pub mod Shown
pub mod Whether
pub mod Parts
pub mod Payloads
