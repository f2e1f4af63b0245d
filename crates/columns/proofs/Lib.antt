pub mod Adding
pub mod Moved
pub mod Putting
pub mod Entering
