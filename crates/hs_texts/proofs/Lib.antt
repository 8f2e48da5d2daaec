pub mod Comments
mod Joining
