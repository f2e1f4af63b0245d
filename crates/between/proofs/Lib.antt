pub mod Redefined
pub mod Shown
pub mod Onward
pub mod Along
