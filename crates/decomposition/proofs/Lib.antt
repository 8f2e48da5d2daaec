pub mod Flowing
pub mod Labelling
pub mod Enough
pub mod Reading
pub mod Pairs
pub mod LawfulHeader
pub mod Networks
pub mod Whole
