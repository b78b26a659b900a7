pub mod SpliceLemmas
pub mod BlockLemmas
pub mod PieceLemmas
pub mod ResizeLemmas
pub mod ReplaceLemmas
pub mod MapLemmas
pub mod ByteLemmas
