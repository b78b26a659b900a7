pub mod Running
pub mod RunsLaws
pub mod Pausing
pub mod Within
pub mod Left
pub mod StoresLaws
pub mod Frames
pub mod Laws
