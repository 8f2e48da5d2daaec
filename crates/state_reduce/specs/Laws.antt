-- What follows from the definitions.
pub mod Alike
pub mod Unrefused
pub mod Works
