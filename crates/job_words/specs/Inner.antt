-- What only private functions and proofs cite.
pub mod Draft
pub mod Operands
