pub mod Literals
pub mod AskedTerms
