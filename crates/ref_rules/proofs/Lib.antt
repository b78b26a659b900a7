mod NumberLemmas
mod KeptLemmas
mod CountLemmas
mod HoldingLemmas
mod LiveLemmas
mod SourceLemmas
mod PartLemmas
mod AddressLemmas
