pub mod Term
pub mod Pair
pub mod Lists
pub mod Charts
pub mod Laws
