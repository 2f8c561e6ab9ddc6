pub mod OneList
pub mod Moments
pub mod Requests
