pub mod Sums
pub mod Noted
pub mod Alike
pub mod Once
pub mod Reasons
pub mod OneReason
pub mod Texts
