-- What the loop of this crate keeps, and the laws by which it does.
pub mod Checking
