pub mod Contents
pub mod Numbers
pub mod Parts
pub mod Sequence
pub mod Turns
pub mod Pieces
pub mod Marks
pub mod Memories
