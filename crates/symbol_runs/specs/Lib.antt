pub mod Causes
pub mod Inner
pub mod Laws
pub mod Starts
pub mod Texts
