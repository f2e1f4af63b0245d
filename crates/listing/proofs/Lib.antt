pub mod Walking
pub mod Lines
pub mod Numbers
pub mod Places
pub mod Short
pub mod Window
pub mod Agrees
