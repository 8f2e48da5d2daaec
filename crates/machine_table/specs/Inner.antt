-- Definitions for private functions and proofs; no public contract cites them.
pub mod OpenSymbol
pub mod SettledCubes
pub mod Step
pub mod Gathered
