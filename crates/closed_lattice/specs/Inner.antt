-- Definitions that only private functions and proofs need.
pub mod WaitingPairs
pub mod Joins
pub mod Growth
pub mod Generators
