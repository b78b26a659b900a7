pub mod Named
pub mod Bound
pub mod Made
pub mod Shown
pub mod Outside
