pub mod Trees
pub mod CoreInstances
pub mod Types
pub mod Items
pub mod TypeSections
pub mod Components
pub mod Depths
