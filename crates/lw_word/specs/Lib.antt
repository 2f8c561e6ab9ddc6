pub mod LightweightWord
pub mod LockState
pub mod Packing
pub mod WaitList
pub mod SlotWord
