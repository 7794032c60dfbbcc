pub mod Hexadecimal
pub mod Listing
pub mod Payloads
pub mod Tallies
