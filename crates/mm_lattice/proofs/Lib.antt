pub mod Found
pub mod Generating
pub mod Holds
pub mod Grown
pub mod Listed
pub mod Placed
pub mod Reached
pub mod Topmost
