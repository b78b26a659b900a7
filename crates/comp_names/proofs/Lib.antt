pub mod PartLemmas
pub mod SeenLemmas
