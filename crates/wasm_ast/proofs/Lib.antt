pub mod TypeLaws
pub mod InstructionLaws
pub mod ItemLaws
pub mod ModuleLaws
pub mod ComponentGrammar
pub mod JoinedLemmas
