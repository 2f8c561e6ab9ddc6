-- The calls of a session.
pub mod Held
