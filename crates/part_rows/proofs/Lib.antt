pub mod EqualRows
pub mod Fields
pub mod OwnBits
pub mod Made
pub mod Taken
pub mod Joined
pub mod Listed
