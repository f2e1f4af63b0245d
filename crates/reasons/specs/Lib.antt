pub mod Stops
pub mod Explains
pub mod Parts
