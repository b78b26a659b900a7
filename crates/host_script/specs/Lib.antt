pub mod Json
pub mod Reads
pub mod Hosts
pub mod Script
pub mod Exports
pub mod Kept
pub mod Taken
