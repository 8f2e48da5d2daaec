pub mod Names
pub mod NumberedNames
pub mod LawfulFile
pub mod Machine
pub mod Worked
pub mod Laws
