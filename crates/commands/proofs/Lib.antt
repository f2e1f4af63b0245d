-- What the loops of this crate keep, and the laws by which they do; and that nothing is left open: Sole.reads-sole.
pub mod Wording
pub mod Sole
