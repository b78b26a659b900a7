pub mod FailingLaws
pub mod MemSinkLaws
pub mod HeldLaws
pub mod TableLaws
pub mod EntryLaws
pub mod MemFilesLaws
pub mod MemMeans
