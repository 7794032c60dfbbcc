-- In which order frames leave, and the octets that wait. It knows frames alone.
pub mod Arrangement
pub mod ArrangementRules
pub mod Outputs
pub mod Prefixes
pub mod Departures
