pub mod AllowedLemmas
pub mod FrontLemmas
pub mod NumberLemmas
pub mod FieldLemmas
pub mod ByteLemmas
