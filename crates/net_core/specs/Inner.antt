-- Definitions that private functions and proofs need; no public contract cites them.
pub mod Failures
pub mod Walk
pub mod Cycle
pub mod NameNumbers
