-- What a session has between two of its calls, and that it has it again after one.
pub mod Acquires
pub mod Ends
pub mod Entries
pub mod Reads
pub mod Stored
