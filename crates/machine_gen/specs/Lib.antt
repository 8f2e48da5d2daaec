pub mod Words
pub mod WordMachine
pub mod PartSteps
pub mod ParallelParts
pub mod Inner
