mod Structures
pub mod Accepted
