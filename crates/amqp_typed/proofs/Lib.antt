pub mod Arrays
pub mod Carrying
pub mod Places
