pub mod Catalog
pub mod Faults
pub mod Follow
pub mod Reach
pub mod Text
pub mod Told
pub mod Words
