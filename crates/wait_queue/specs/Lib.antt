pub mod Decide
pub mod Queues
