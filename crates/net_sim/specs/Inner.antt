-- Definitions that private functions and proofs need; no public contract cites them.
pub mod SymbolLine
pub mod GateValues
pub mod Pieces
pub mod Forms
pub mod ValueTables
pub mod RunProgress
pub mod Failures
pub mod Numbers
