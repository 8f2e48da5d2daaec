pub mod Headers
pub mod Texts
mod OneText
pub mod Registers
