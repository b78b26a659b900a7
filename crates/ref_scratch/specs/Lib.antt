pub mod Told
pub mod Texts
pub mod Places
pub mod Leads
pub mod Names
