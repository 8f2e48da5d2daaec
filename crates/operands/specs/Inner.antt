-- What only private functions and proofs cite.
pub mod LoadRefusal
pub mod TextRefusal
