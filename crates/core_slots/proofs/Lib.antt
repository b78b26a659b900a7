pub mod WordLaws
pub mod ValueLaws
