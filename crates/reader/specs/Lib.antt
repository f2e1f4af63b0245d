pub mod Screened
