pub mod Writing
pub mod Tens
pub mod Digits
pub mod Signs
