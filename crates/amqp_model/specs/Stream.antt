-- An end over octets: pieces of a stream in, octets out. Read after `End` and `Output`.
pub mod Octets
pub mod Endpoint
pub mod BlameAtOctets
pub mod Pieces
pub mod Grown
pub mod RunningOut
pub mod Traces
