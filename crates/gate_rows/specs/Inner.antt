-- Definitions that private functions and proofs need; no public contract cites them.
pub mod Literals
pub mod Texts
pub mod Terms
