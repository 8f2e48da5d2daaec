pub mod Sufficing
pub mod Halves
