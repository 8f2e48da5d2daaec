pub mod Appending
pub mod Comments
pub mod Sizes
pub mod Coding
pub mod Judging
pub mod Flowing
pub mod Whole
pub mod Judged
