pub mod Voices
pub mod Growth
pub mod Keeping
