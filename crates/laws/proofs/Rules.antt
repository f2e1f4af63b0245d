-- Refusals 3 to 17, 20 and 25 by rules that are stated as the documents' rows state them, what is told of their places, and how every outcome comes about.
pub mod Order
pub mod FaultRules
pub mod DrawingRules
pub mod Positions
pub mod Outcomes
