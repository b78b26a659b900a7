pub mod Destructor
pub mod State
