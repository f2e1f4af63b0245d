-- What crates above cite. The recogniser is sound and complete: Verdicts.judged. Every live state has a completion: Automaton.live. A text has one
-- marking: Markings.one-marking, and it is ASCII: Markings.match-ascii. Which states lie within a definition, and that only DS leads in and only DF
-- out: Boundaries.inside-step. A marking resumed behind a command: Boundaries.boundary, resumed. Two verdicts that are allowed are one: Unique.one-verdict.
pub mod Tests
pub mod Derivatives
pub mod Items
pub mod Roles
pub mod Fitting
pub mod Automaton
pub mod Steps
pub mod Markings
pub mod Boundaries
pub mod Verdicts
pub mod Unique
pub mod Ahead
pub mod Numerals
