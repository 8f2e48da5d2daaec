pub mod Figures
pub mod SeedMachine
pub mod Trial
pub mod Inner
pub mod Laws
