-- Wait words, stages and hands, argued over plain functions.
pub mod Stages
pub mod Shown
pub mod Steps
pub mod Group
