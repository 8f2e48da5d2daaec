-- Definitions that only private functions and proofs need.
pub mod Pieces
pub mod Holders
pub mod Joints
pub mod Rows
