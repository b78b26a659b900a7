pub mod CheckLaws
pub mod PlugLaws
