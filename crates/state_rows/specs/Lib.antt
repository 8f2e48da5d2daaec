pub mod Least
pub mod Conflict
pub mod Places
pub mod Columns
pub mod Bundles
pub mod Worked
pub mod Laws
