pub mod ErrLines
pub mod Reports
pub mod Comparisons
