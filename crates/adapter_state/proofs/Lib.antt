pub mod Destroying
pub mod EachKind
pub mod Naming
pub mod Fitting
