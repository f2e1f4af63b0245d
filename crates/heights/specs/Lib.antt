pub mod Calls
pub mod Walk
pub mod Kept
pub mod Replies
