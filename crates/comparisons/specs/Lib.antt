pub mod Counts
pub mod Lines
pub mod Comparison
pub mod CountLaws
pub mod Worked
pub mod Inner
