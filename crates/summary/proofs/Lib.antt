pub mod Starting
pub mod Along
pub mod Telling
pub mod Cut
