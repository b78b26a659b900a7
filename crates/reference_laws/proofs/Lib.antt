pub mod Reaching
pub mod Handled
pub mod Free
pub mod Closed
pub mod AnswerKinds
pub mod OpenedFiles
pub mod Standing
pub mod Examples
