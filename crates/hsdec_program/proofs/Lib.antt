pub mod Answering
pub mod ToldWords
