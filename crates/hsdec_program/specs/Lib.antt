pub mod Words
pub mod Phrases
pub mod Groups
pub mod Pages
pub mod Status
