pub mod Listing
mod SmallCases
mod Spelling
mod Turning
pub mod Gathering
pub mod Kept
pub mod Found
pub mod Reached
pub mod Specified
pub mod Steps
pub mod Numbering
pub mod PartInputs
pub mod Whole
pub mod LawfulMachine
pub mod Narrowed
pub mod MadeRows
pub mod Conflicts
pub mod PartSets
pub mod Making
