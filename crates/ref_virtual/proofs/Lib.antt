mod PickLemmas
pub mod TreeLaws
mod FilesNodeLemmas
mod SeenLemmas
mod LedLemmas
mod RangeLemmas
mod SameLemmas
mod ReadLemmas
pub mod FilesInsideLemmas
pub mod HandleLemmas
mod NameLemmas
pub mod MethodsOtherLemmas
mod NodeLemmas
mod PollLemmas
mod InterfaceLemmas
pub mod WordLaws
mod ToldLemmas
mod BesideLemmas
mod OtherLemmas
mod ByteLemmas
mod ActLemmas
mod InsideLemmas
