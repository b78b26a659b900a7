pub mod Behaves
pub mod PluggedIn
pub mod Shown
