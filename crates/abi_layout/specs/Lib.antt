pub mod Flat
pub mod Numbers
pub mod Loading
pub mod Storing
pub mod Handles
pub mod Functions
