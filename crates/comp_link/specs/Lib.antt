pub mod Plans
pub mod Linking
pub mod Components
pub mod Laws
pub mod Planned
pub mod Groups
pub mod Sections
pub mod Exports
