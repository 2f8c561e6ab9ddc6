pub mod Some
pub mod Eligible
pub mod Setting
pub mod Clearing
pub mod Databases
pub mod Remembered
pub mod Used
pub mod Bits
