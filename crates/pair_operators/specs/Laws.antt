-- What follows from the definitions alone.
pub mod Pairs
pub mod Extremes
pub mod Growth
pub mod Going
