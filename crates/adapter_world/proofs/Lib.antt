pub mod Reached
pub mod Few
pub mod Labels
pub mod Sparse
pub mod Below
pub mod Imported
