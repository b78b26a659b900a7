pub mod Holding
pub mod ValidLaws
pub mod Strategies
pub mod Laws
pub mod Shown
