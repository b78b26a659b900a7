pub mod HandleMap
pub mod Shown
pub mod Answers
