pub mod Copying
pub mod Views
pub mod Forms
