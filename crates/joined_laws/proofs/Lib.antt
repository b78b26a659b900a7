pub mod Behaving
pub mod PluggingIn
pub mod Showing
