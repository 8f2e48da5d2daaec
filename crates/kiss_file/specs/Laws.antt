pub mod Machine
pub mod NumberedNames
pub mod ByState
