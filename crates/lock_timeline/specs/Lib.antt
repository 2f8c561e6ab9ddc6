-- what a timeline's bars say
pub mod Bars
