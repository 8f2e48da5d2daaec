-- Definitions that only private functions and proofs need.
pub mod SearchResult
pub mod RuleReads
pub mod NamedStates
