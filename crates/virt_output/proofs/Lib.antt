pub mod Adding
pub mod PieceLaws
pub mod FitLemmas
pub mod AroundLaws
pub mod EndLaws
