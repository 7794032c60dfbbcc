pub mod AskingView
pub mod Gathering
pub mod Pulses
