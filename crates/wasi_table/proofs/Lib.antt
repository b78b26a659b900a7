pub mod FunctionLemmas
pub mod ItemLemmas
pub mod OperandLemmas
pub mod PartLemmas
pub mod PlaceLemmas
