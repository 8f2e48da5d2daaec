pub mod Flaws
pub mod Lines
pub mod CoverText
pub mod Inner
pub mod Laws
