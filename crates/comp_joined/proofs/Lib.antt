pub mod Naming
pub mod Joined
pub mod Placed
