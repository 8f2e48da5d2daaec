-- What only private functions and proofs cite.
pub mod JobOutcome
pub mod Pages
pub mod HeadedReport
