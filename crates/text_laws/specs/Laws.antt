-- What follows from the definitions.
pub mod Nets
pub mod Notes
