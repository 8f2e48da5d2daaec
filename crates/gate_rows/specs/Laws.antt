-- What follows from the definitions alone.
pub mod Ranges
pub mod ReadNumbers
pub mod LatchNames
pub mod RowTexts
pub mod TermCovers
