pub mod SplitMachine
pub mod PartText
pub mod PartCauses
pub mod Inner
pub mod Laws
