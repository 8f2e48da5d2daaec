-- What follows from the definitions alone.
pub mod Grammar
pub mod Reading
pub mod Words
pub mod Designs
pub mod Visible
