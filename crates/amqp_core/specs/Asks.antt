-- What an application asks of an end, and what it decides in the handshake: the words of the code in those of the
-- model, and what comes of them. Read after the model's `End.Asks` and `End.Controls`.
pub mod View
pub mod LentForm
pub mod LentLetter
pub mod Refusals
pub mod Outcomes
pub mod Effects
pub mod Lent
pub mod ControlView
pub mod Controlled
pub mod Controlling
