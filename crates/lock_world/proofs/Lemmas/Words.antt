-- What words show, and what becomes of that when one is changed.
pub mod Holders
pub mod Wait
