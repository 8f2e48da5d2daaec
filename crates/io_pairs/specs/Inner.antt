-- Definitions that only private functions and proofs need.
pub mod Families
pub mod Marks
pub mod RightSides
pub mod Words
pub mod Lists
