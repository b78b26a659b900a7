pub mod PlaceLemmas
pub mod CountLaw
