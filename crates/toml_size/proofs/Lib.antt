pub mod Within
pub mod Texts
pub mod Tables
pub mod Documents
