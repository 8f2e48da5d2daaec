-- Definitions that private functions and proofs need; no public contract cites them.
pub mod JoinedLines
pub mod LineStatements
pub mod Standing
pub mod ShortFields
pub mod Draft
pub mod Progress
