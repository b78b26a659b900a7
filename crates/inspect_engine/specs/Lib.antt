pub mod Fates
pub mod Rows
pub mod Texts
pub mod Report
pub mod Status
pub mod Policies
pub mod Inspected
