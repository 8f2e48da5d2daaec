pub mod Reading
pub mod Lists
pub mod Choosing
pub mod Regions
pub mod Narrowing
pub mod Wanting
pub mod Least
