pub mod Places
pub mod Sound
pub mod Items
pub mod References
mod Runs
pub mod Steps
pub mod Growing
pub mod Starting
pub mod Further
pub mod Keeping
pub mod Stores
