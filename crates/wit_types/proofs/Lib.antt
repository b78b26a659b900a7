pub mod PlainLemmas
pub mod ValueLemmas
pub mod TypingLemmas
pub mod Only
