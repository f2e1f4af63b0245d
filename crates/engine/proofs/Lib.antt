pub mod Heads
pub mod Taking
pub mod Calls
pub mod Underway
pub mod Outer
pub mod Sole
pub mod Held
