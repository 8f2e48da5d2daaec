pub mod Clocks
pub mod Inner
pub mod Judgement
pub mod Operands
pub mod Promise
pub mod Refusals
pub mod SplitOperands
pub mod Task
