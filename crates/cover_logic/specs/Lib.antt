pub mod TermCover
pub mod Inner
