pub mod Figure
pub mod Inside
