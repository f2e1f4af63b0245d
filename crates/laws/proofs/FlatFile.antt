-- The flat file: its decimals, that it is in the grammar, and that read again it draws the same shapes.
pub mod Decimals
pub mod Again
pub mod Shapes
pub mod Reread
pub mod Spelling
pub mod Said
pub mod Faultless
pub mod Flattened
pub mod Sound
pub mod Lengths
