pub mod LayoutLemmas
pub mod FlatLemmas
pub mod HandleLaws
pub mod TypeLaws
