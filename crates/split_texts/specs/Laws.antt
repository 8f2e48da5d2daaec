-- What follows from the definitions.
pub mod Parts
pub mod Flows
pub mod Least
pub mod Kinds
pub mod Plans
pub mod Codes
pub mod Names
pub mod Causes
