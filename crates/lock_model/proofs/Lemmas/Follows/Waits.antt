-- The steps on wait words.
pub mod Asks
pub mod Joins
pub mod Marks
pub mod Clears
