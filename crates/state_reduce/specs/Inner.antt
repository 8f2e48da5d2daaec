-- What private functions and proofs need; no public contract cites it.
pub mod Refinement
pub mod Demands
pub mod BlockNames
