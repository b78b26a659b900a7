pub mod Cells
pub mod MapLaws
