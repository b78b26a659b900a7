pub mod Contents
pub mod Numbers
pub mod Lives
pub mod Holding
pub mod Seen
pub mod Sources
pub mod Parts
pub mod Denials
