-- Definitions that only private functions and proofs need.
pub mod RightSides
pub mod PlacedPairs
