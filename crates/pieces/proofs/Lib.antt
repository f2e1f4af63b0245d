-- What crates above cite: where a reader can start, Spots.start-fits, behind-fits, start-pieces; which piece a letter begins, Finds; sizes that are
-- capped, Capped.
pub mod Capped
pub mod Lexing
pub mod Comments
pub mod Digits
pub mod Marks
pub mod Spots
pub mod Finds
