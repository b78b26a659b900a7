pub mod Fine
pub mod Own
pub mod Forms
pub mod Entries
pub mod Table
pub mod Routines
