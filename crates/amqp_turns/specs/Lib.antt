pub mod Sends
pub mod Advancing
pub mod TurnsView
