pub mod ClosedPartitions
pub mod Limits
pub mod KnownPrincipals
pub mod Inner
pub mod Laws
