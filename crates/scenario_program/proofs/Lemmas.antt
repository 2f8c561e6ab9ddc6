-- The lemmas of the proofs.
pub mod Printing
pub mod Typing
