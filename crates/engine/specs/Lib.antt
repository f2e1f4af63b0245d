pub mod Heads
pub mod Draws
pub mod Outer
