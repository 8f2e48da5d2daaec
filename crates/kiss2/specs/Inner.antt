-- Definitions that private functions and proofs need. No public contract cites them.
pub mod ReaderState
pub mod FaultlessLines
pub mod Parts
pub mod ReaderPlace
pub mod Kinds
