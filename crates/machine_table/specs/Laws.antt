-- What follows from the definitions alone.
pub mod Conflicts
pub mod OutputWords
pub mod Parts
pub mod Unrefused
