-- Definitions that only private functions and proofs need.
pub mod Steps
pub mod Pieces
pub mod PairsNetwork
pub mod CommentedNetwork
