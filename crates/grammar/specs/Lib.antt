pub mod Notation
pub mod Productions
pub mod Viable
pub mod Tables
pub mod Steps
