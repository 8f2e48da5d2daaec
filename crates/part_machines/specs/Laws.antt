-- What follows from the definitions.
pub mod Fields
pub mod Cells
pub mod Blocks
