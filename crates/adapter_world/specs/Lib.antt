pub mod Borrows
pub mod Needed
pub mod Behind
pub mod Names
pub mod Imports
