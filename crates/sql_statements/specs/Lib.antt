pub mod Parting
pub mod Statements
