pub mod Jobs
pub mod Reports
pub mod Networks
pub mod Comparisons
