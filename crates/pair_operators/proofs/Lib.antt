pub mod Firsts
pub mod LowSoFar
pub mod Classes
pub mod Asking
