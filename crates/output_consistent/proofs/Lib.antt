pub mod Agreeing
pub mod Splitting
pub mod Listed
