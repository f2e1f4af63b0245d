pub mod Spoken
pub mod Growing
pub mod Onward
pub mod Answered
pub mod Bodies
pub mod Entered
