-- Definitions that only private functions and proofs need.
pub mod Distinct
pub mod Given
pub mod Shown
