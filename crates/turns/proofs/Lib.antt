pub mod Signed
pub mod Nets
pub mod Lists
pub mod Sole
pub mod Rows
pub mod Placing
