pub mod Words
pub mod Standing
pub mod Faults
pub mod Kiss
pub mod KissText
pub mod Inner
pub mod Laws
