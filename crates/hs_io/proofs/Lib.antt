pub mod Lookups
pub mod Cuts
