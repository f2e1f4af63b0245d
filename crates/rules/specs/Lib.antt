pub mod Letters
pub mod Written
pub mod Rules
