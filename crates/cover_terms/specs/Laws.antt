pub mod Bits
pub mod Terms
pub mod Lists
pub mod Values
pub mod Gaps
