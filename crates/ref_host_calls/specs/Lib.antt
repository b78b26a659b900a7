pub mod Losses
pub mod Requests
pub mod Reactions
pub mod Places
pub mod Offers
pub mod Offered
