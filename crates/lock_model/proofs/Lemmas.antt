-- The lemmas that proofs of several functions share.
pub mod CountedLists
pub mod SleeperLists
pub mod PlainLists
pub mod SlotRows
pub mod HoldOrder
pub mod Shows
pub mod Follows
