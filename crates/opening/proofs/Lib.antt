pub mod CallWords
pub mod Opening
pub mod Witnesses
pub mod Sole
