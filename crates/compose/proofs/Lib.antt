pub mod AssembleLaws
pub mod CheckLaws
