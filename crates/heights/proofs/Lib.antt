pub mod Walking
pub mod Nexts
pub mod Kept
pub mod Replied
