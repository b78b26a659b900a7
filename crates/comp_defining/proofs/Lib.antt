pub mod AroundLemmas
pub mod Inner
pub mod OuterLemmas
pub mod PartLemmas
pub mod TypeLemmas
