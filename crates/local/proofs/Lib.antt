mod RunSoFar
pub mod Lengths
