-- What a request makes of the account and the trace.
pub mod Whole
pub mod InPart
pub mod BySlot
pub mod Refused
pub mod Room
pub mod Answered
