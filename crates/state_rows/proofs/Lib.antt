pub mod Against
pub mod BundleMarks
pub mod KeptColumns
pub mod Ordered
pub mod RowBundles
pub mod RowNumbers
pub mod RowPatterns
