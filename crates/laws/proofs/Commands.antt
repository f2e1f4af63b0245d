-- What the grammar makes of every command of a text: its numbers, their signs and places, the order of commands, and what holds after no fault.
pub mod Course
pub mod Made
pub mod Ordered
pub mod NumberPlaces
pub mod Wires
pub mod WordsWithin
pub mod Sizes
