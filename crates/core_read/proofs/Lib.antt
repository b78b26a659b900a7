pub mod BlockTypes
pub mod ModuleAnswers
