pub mod Versions
pub mod Seen
pub mod Shown
pub mod Found
pub mod Polled
pub mod Passed
