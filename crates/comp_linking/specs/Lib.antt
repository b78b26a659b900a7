pub mod Drafts
pub mod Modules
pub mod Walks
pub mod Goes
pub mod Names
pub mod Firsts
