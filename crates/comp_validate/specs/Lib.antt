pub mod Judged
pub mod Answer
pub mod Rest
pub mod Closing
pub mod Stack
