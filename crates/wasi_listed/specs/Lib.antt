pub mod IoListed
pub mod IoWit
pub mod Listed
pub mod FsListed
pub mod FsWit
pub mod NetListed
pub mod NetWit
