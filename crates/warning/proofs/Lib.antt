-- What is warned of an accepted text is the definition's: Agrees.accepted-warned; and how long it can be: Dear.dear-within.
pub mod LeanCalls
pub mod Agrees
pub mod Dear
pub mod Along
pub mod Cut
pub mod Lines
pub mod Any
