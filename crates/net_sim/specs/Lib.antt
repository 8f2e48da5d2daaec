pub mod BitTexts
pub mod Symbols
pub mod Starts
pub mod Run
pub mod Worked
pub mod Inner
