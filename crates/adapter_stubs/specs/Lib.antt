pub mod Named
pub mod Stub
pub mod Widths
pub mod Bodies
pub mod Stubs
pub mod Calls
