-- Definitions for private functions and proofs; no public contract cites them.
pub mod Plane
