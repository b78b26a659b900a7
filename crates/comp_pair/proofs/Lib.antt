pub mod SameLaws
pub mod AssembleLaws
