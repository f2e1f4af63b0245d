-- `LastE` and `Making` are what the code rests on. `Once` says that `join` answers in one way, and that accepted texts are joined.
pub mod LastE
pub mod Making
pub mod Once
