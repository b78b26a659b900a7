mod LossLemmas
pub mod AskLemmas
mod ArgumentLemmas
mod GiveLemmas
pub mod OfferLemmas
mod OfferedLemmas
