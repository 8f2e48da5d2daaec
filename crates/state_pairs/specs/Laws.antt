-- What follows from the definitions alone.
pub mod AddedPairs
pub mod Asking
pub mod Labels
pub mod Lawful
pub mod MergedPairs
pub mod NamedPairs
pub mod NextLabels
pub mod Sought
pub mod Staying
