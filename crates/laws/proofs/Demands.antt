-- The user's three demands, over the definitions, and what request 10 (RULES 8) shows of the words lent.
pub mod Demand1
pub mod Demand2
pub mod Demand3
pub mod Words
