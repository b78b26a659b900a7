pub mod Pairs
pub mod Describes
pub mod Given
pub mod Instances
pub mod Takes
pub mod Early
