-- The lemmas that proofs of several functions share.
pub mod Sessions
pub mod Commands
pub mod Defects
pub mod OneDefect
pub mod Gathering
pub mod Known
pub mod NameOrder
pub mod Names
pub mod TextBytes
pub mod Objects
pub mod Kept
pub mod Words
pub mod Lending
pub mod Ready
pub mod Rows
