-- What follows from the definitions alone.
pub mod Need
pub mod InnerLabels
pub mod Places
pub mod Codes
pub mod Splits
pub mod OwnCarriers
