pub mod Alignment
pub mod AlikeRows
pub mod MarkedRows
pub mod NamedIn
pub mod PairsOnce
pub mod PlacedOutputs
