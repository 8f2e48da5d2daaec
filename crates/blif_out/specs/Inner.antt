-- Definitions that only private functions and proofs need.
pub mod Pieces
pub mod Signals
