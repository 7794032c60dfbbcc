-- What an application is told, in the words of the model, and as text. What it sees of this crate is here and in
-- `Roles`.
pub mod Closes
pub mod EventView
pub mod PartsView
pub mod EventTexts
