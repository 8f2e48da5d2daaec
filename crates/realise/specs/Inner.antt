-- Definitions that only private functions and proofs need.
pub mod FreeNames
pub mod FilledRows
pub mod Lists
pub mod AddedGates
