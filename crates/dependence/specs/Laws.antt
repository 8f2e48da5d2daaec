-- What follows from the definitions.
pub mod Words
pub mod Agreeing
pub mod Judged
pub mod Irredundant
pub mod Said
