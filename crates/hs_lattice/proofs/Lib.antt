pub mod Places
pub mod Collections
pub mod Values
pub mod Passes
pub mod Distinct
pub mod Exclusion
pub mod Moving
