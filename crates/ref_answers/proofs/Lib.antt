mod NumberLaws
mod NameLaws
mod KindLaws
mod SmallLaw
mod TableLaws
pub mod ValueLemmas
pub mod PollLemmas
pub mod SeenLaws
mod PassLemmas
