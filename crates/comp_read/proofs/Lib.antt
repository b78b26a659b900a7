pub mod ItemCauses
pub mod TypeCauses
pub mod TypeSectionCauses
pub mod ComponentCauses
pub mod SameReads
pub mod AnyDepth
mod StopLaws
mod ComponentAnswers
mod ComponentLoop
