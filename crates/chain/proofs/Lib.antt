pub mod Runs
pub mod Telling
