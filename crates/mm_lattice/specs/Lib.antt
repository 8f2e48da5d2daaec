pub mod Sides
pub mod MmPairs
pub mod Generators
pub mod Top
pub mod Laws
pub mod Inner
