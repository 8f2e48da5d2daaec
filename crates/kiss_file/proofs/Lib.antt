pub mod Copying
pub mod WorkedMachine
