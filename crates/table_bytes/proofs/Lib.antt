pub mod Fine
pub mod Own
pub mod Placing
pub mod PlaceLaws
pub mod Bytes
pub mod Takes
pub mod Frees
pub mod Zeros
