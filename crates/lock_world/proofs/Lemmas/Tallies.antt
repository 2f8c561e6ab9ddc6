pub mod Lists
pub mod Sums
pub mod Bits
pub mod Sessions
pub mod Counters
