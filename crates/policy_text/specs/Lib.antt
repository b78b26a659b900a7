pub mod Hex
pub mod Networks
pub mod PathKeys
