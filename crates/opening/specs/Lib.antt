pub mod Calls
pub mod Opening
