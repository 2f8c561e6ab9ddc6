-- What a listing tells.
pub mod Own
