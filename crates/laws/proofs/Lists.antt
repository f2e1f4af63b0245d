-- What holds of all of a list, and the definitions on joined lists.
pub mod Range
pub mod Joined
