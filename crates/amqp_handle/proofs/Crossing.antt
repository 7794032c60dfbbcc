-- What may go to another thread, from a field table to what an end's handle holds.
pub mod Channels
pub mod Ends
pub mod Held
pub mod Messages
pub mod Roles
pub mod Tables
