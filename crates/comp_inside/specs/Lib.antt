pub mod Inside
pub mod Wrapping
pub mod Laws
pub mod Renaming
pub mod Later
pub mod Linked
