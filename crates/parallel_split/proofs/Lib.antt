pub mod Meets
pub mod Separating
pub mod Gathering
pub mod Spared
pub mod Remaining
pub mod Parts
