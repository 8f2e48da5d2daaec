pub mod Digits
pub mod Taken
pub mod RowStands
pub mod Front
pub mod Ending
pub mod OneFault
pub mod Exact
pub mod Written
