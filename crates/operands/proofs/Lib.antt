mod Loads
mod Opened
mod PartRefusals
mod PartsRead
