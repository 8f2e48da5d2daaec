pub mod Split
pub mod Kinds
pub mod Code
pub mod Inner
pub mod Agreement
pub mod Fault
pub mod Laws
