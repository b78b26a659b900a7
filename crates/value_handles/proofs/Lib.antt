pub mod Views
pub mod Laws
pub mod Only
pub mod Changes
pub mod Turns
pub mod Twice
pub mod NumbersViews
pub mod Sizes
