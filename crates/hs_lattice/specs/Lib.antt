pub mod JoinWorld
pub mod Places
pub mod Collection
pub mod Laws
pub mod Listing
pub mod Inner
