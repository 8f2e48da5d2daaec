-- What follows from the definitions alone.
pub mod Generating
pub mod Listed
