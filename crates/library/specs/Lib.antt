pub mod Memory
pub mod Sound
pub mod Moving
pub mod Rows
pub mod Storing
pub mod Holds
pub mod Clearing
