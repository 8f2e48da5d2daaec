pub mod Symbol
pub mod Field
pub mod Cube
pub mod Gap
pub mod Inner
pub mod Laws
