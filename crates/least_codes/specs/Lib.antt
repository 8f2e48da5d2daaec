pub mod LeastReads
pub mod Cost
pub mod LeastCode
pub mod Kind
pub mod Gates
pub mod Laws
pub mod Inner
