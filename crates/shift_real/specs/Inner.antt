-- Definitions that private functions and proofs need; no public contract cites them.
pub mod Positions
pub mod RisingChain
pub mod Contents
pub mod Tables
pub mod OutputReads
pub mod ContentDemands
pub mod DemandedGate
pub mod Latches
pub mod OutputReading
pub mod RegisterContents
pub mod ShiftGates
