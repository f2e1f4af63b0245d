-- A story held to records (Stacked), what becomes of it where they are too few (Lacking), and what an engine that is lent records promises (Engines).
pub mod Stacked
pub mod Lacking
pub mod Engines
