pub mod FitLaws
pub mod TypeFits
pub mod ExtendLaws
