pub mod Working
pub mod Lifting
pub mod Begun
pub mod Hosts
pub mod Visiting
pub mod Popped
pub mod NoResult
