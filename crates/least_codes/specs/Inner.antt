-- Definitions that only private functions and proofs need.
pub mod StatePairs
pub mod Choice
pub mod Table
pub mod Costs
pub mod Lists
pub mod Parts
