-- What crates above cite. The account as the code goes along is the account: Meaning.runs-first. Two refusals that are allowed are one:
-- Unique.one-refusal. The account is the definition's: AllSay.all-say, Agree.fault-is; words are exact after no fault: Exact.all-exact.
pub mod Meaning
pub mod Unique
pub mod Texts
pub mod Tokens
pub mod Says
pub mod Productions
pub mod AllSay
pub mod Foremost
pub mod Marks
pub mod Blames
pub mod Facing
pub mod Packed
pub mod Agree
pub mod Exact
