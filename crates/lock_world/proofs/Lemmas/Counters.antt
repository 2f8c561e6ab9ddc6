pub mod Lists
pub mod Counting
pub mod Uncounting
pub mod Passing
pub mod Sums
