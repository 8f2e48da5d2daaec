-- What follows from the definitions.
pub mod Bits
pub mod Places
pub mod Masks
pub mod Held
pub mod Numbers
pub mod Meeting
pub mod Ends
pub mod Parts
pub mod Deciding
pub mod SharedCubes
