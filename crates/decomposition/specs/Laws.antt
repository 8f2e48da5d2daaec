-- What follows from the definitions alone.
pub mod Lists
pub mod Writable
pub mod Carrying
pub mod ReadOnce
