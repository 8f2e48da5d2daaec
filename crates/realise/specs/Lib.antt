pub mod Names
pub mod Codes
pub mod CarriedMachine
pub mod Rows
pub mod CodeNetwork
pub mod Laws
pub mod Inner
