-- Definitions that only private functions and proofs need.
pub mod Rows
pub mod Ties
pub mod RemovedLabel
pub mod JoinedRows
