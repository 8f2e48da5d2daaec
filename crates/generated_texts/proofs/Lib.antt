mod Running
mod Trying
pub mod TrialTexts
