pub mod States
pub mod Underway
