pub mod Words
pub mod Nets
