pub mod LebLaws
