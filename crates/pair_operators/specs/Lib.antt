pub mod Pair
pub mod NextBlocks
pub mod Extremes
pub mod NextColumns
pub mod Consistency
pub mod Growth
pub mod Inner
pub mod Laws
