pub mod AlikeStates
pub mod Quotient
pub mod WorkMachine
pub mod Work
pub mod Laws
pub mod Cause
pub mod Inner
