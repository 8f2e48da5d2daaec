-- What follows from the definitions.
pub mod Causes
pub mod OneSplit
