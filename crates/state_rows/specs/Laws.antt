-- What follows from the definitions alone.
pub mod Least
pub mod Lists
pub mod Marks
pub mod OneCube
pub mod Outputs
pub mod WorkedConflict
