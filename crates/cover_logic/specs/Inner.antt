-- Definitions that private functions and proofs need; no public contract cites them.
pub mod Rows
pub mod Entries
pub mod Planes
pub mod Bundles
pub mod Groups
pub mod WaitingTerms
pub mod Nodes
pub mod Sides
pub mod Index
pub mod Tables
pub mod Lasts
