pub mod Columns
pub mod GateCovers
pub mod Demands
pub mod Names
pub mod Latches
pub mod Laws
pub mod Inner
