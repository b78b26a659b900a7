mod PartLemmas
pub mod FindLemmas
pub mod NameLemmas
mod TextLemmas
mod EntryLemmas
mod RowLemmas
