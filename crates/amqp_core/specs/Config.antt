-- What an end is set up with.
pub mod KeptHello
pub mod Settings
pub mod Configs
pub mod Defaults
