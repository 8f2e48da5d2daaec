pub mod Appending
pub mod Everywhere
pub mod Members
pub mod Places
