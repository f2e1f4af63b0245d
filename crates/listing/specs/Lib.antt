pub mod Account
pub mod Listed
