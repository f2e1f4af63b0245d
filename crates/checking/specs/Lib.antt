pub mod Account
pub mod Along
