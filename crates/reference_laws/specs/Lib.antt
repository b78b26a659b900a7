pub mod Reaching
pub mod Closed
pub mod Standing
