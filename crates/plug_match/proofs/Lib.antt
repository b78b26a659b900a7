pub mod EntrySteps
pub mod PairSteps
pub mod FirstLaws
pub mod HandleLaws
pub mod SecondLaws
