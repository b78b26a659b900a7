pub mod Steps
pub mod FirstWalk
pub mod Numbers
pub mod Walk
pub mod Answers
