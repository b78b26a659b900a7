pub mod Leaves
pub mod Noted
pub mod Owned
pub mod Numbers
pub mod RoomEntering
pub mod Entering
pub mod Contents
