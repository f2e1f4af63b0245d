pub mod Places
pub mod ReadBack
pub mod Signs
pub mod Telling
