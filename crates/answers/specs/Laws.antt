-- What follows from the definitions of causes.
pub mod Causes
