pub mod MapLaws
pub mod MethodLaws
pub mod RowLaws
pub mod ToldLaws
mod BytesTypeLaws
pub mod BytesListedLaw
mod TypeLaws
mod ValueForms
mod CodeLaws
mod RowForms
mod StreamTypes
mod NodeTypes
mod ScratchTypes
mod RowTypes
mod ArgumentLaws
mod ListedLaw
mod StepLaw
mod ViewLaws
mod VersionLemmas
mod HostLemmas
pub mod KeepLemmas
pub mod StepLemmas
pub mod RowLemmas
pub mod RoomLemmas
pub mod StateLemmas
pub mod TestLemmas
pub mod TypedLemmas
