pub mod Together
pub mod Parts
pub mod OneMachine
pub mod Texts
pub mod Worked
pub mod WorkedPart
