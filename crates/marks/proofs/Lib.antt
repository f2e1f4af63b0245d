pub mod Marking
pub mod Gathering
