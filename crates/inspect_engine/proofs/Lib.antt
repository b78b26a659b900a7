pub mod Joining
pub mod PolicyReading
pub mod Inspecting
pub mod Accepting
