-- Definitions that only private functions and proofs need; no public contract cites them.
pub mod Header
pub mod Labels
pub mod HeadedNetwork
