-- What follows from the causes.
pub mod Causes
