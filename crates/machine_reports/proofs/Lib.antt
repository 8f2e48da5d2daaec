pub mod Defining
mod Digits
mod Reducing
mod Listing
mod StateNames
