mod AlikeLemmas
mod AtomLemmas
mod HandleLemmas
mod RoomLemmas
mod Only
pub mod HandleLaws
pub mod NumberLaws
pub mod Bounds
pub mod KindBounds
pub mod ListedLaw
pub mod EnterLemmas
pub mod SeenEntering
pub mod KeepLaws
