pub mod EndLending
pub mod EndSlots
pub mod Gathered
pub mod Lending
pub mod Opening
pub mod Slots
pub mod Statuses
