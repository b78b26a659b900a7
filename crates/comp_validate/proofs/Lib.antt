pub mod EachLemmas
pub mod PartLemmas
pub mod TreeLemmas
pub mod NestedLemmas
pub mod RestLemmas
pub mod InnerLemmas
pub mod StepLemmas
pub mod ClosingLemmas
