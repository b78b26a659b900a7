pub mod Answers
pub mod SelectLists
