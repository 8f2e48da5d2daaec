pub mod Outputs
pub mod Inner
