pub mod Text
pub mod StateCover
pub mod Refusal
pub mod Expansion
pub mod Parts
pub mod Inner
pub mod Laws
