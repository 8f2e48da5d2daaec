-- What private functions and proofs need; no public contract cites it.
pub mod Agreement
