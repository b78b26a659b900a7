pub mod GatherLemmas
pub mod FirstLemmas
pub mod LeastLemmas
pub mod SeenLemmas
pub mod FunctionLemmas
pub mod Chains
