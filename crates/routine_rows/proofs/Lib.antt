pub mod Calling
pub mod Fitted
pub mod Making
