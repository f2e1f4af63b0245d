pub mod Writes
pub mod Tens
