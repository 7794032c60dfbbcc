pub mod Coming
pub mod Crossing
pub mod EndOpened
pub mod EndRooms
pub mod Opened
pub mod Places
pub mod Rooms
pub mod Telling
