pub mod Opening
pub mod Counting
pub mod Calls
pub mod Running
