pub mod Denoting
pub mod Appending
pub mod Whole
pub mod Cutting
pub mod Once
pub mod NetworkTexts
pub mod WorkedTexts
