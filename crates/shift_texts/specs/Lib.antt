pub mod Causes
pub mod ShiftText
pub mod Inner
pub mod Laws
