pub mod GivenParts
pub mod LeastNetwork
pub mod Kinds
pub mod Splits
pub mod Causes
pub mod SplitText
pub mod Inner
pub mod Laws
