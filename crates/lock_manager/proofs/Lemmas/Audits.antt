-- What an audit counts.
pub mod Lists
pub mod Counts
pub mod Results
