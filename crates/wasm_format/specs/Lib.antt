pub mod Format
pub mod Numbers
pub mod Reads
pub mod Sections
pub mod Until
