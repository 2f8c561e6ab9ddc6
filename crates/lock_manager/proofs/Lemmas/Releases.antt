-- Releases, and those whom they let go.
pub mod InPart
pub mod Marks
pub mod Owed
