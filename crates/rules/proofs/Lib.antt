-- How a number is scaled.
pub mod Scaling
