pub mod Stacked
pub mod Layout
