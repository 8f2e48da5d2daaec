-- Definitions that only private functions and proofs need.
pub mod SplitHere
pub mod PartHere
