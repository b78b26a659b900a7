pub mod Steps
pub mod CauseLaws
pub mod ListCauses
pub mod SectionCauses
pub mod TypeCauses
pub mod InstructionCauses
pub mod ItemCauses
pub mod ModuleCauses
