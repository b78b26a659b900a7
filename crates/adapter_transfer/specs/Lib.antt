pub mod Module
pub mod ModuleValid
pub mod Valid
pub mod Transfer
