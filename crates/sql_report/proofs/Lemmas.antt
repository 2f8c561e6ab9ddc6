-- The lemmas that proofs of several functions share.
pub mod BoolSteps
pub mod LockSteps
