pub mod Known
pub mod Spelled
