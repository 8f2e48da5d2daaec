pub mod Sides
pub mod Inputs
pub mod Outputs
pub mod Laws
pub mod Inner
