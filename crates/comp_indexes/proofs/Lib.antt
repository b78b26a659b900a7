pub mod DifferLemmas
