pub mod CanonsCanonLemmas
pub mod CanonLemmas
