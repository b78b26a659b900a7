pub mod TagOr
