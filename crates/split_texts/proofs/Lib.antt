pub mod Planning
pub mod Coding
pub mod Listing
pub mod Judging
