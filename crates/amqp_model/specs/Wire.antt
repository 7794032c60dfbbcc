-- What a frame says: methods, contents, headers and bodies, as values. AMQP 0-9-1 specification, sections 2.3 and
-- 4.2.
pub mod Frame
pub mod Methods
pub mod Contents
pub mod Gathering
pub mod Items
pub mod Notes
pub mod Readings
