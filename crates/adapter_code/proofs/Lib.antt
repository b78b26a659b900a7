pub mod Places
pub mod Codes
pub mod Running
pub mod Words
pub mod Enough
pub mod Placed
pub mod InOrder
