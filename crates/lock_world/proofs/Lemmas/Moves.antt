-- What a move leaves of contents and of the sessions' own accounts: each hold and each wait in one place, and
-- nobody free to go.
pub mod OnePlace
pub mod Agreeing
pub mod Each
pub mod Moved
pub mod Adopted
