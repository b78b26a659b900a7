pub mod Plain
pub mod PlainValue
pub mod HasType
pub mod Layout
pub mod Limits
