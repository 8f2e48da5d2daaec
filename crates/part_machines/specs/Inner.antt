-- Definitions that only private functions and proofs need.
pub mod Turning
pub mod Gathered
