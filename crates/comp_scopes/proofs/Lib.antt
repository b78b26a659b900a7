pub mod RestLemmas
pub mod JudgedLemmas
pub mod NameLemmas
pub mod EachLemmas
pub mod NamedLemmas
pub mod ArgumentLemmas
pub mod CoreJudgedLemmas
