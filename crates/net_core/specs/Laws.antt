pub mod Members
pub mod Zipped
pub mod Drivers
pub mod Counted
pub mod Determined
pub mod Valuations
pub mod Flat
pub mod Unlike
