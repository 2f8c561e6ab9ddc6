-- An opener and those that have closed.
pub mod Closed
