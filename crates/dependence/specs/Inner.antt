-- Definitions that only private functions and proofs need.
pub mod LikeStates
pub mod Judgement
pub mod Effects
pub mod FilledRows
pub mod OwnRows
pub mod Sets
pub mod Differences
