pub mod Scanning
pub mod WorkedTexts
pub mod ReadBack
pub mod Header
pub mod Renumbered
pub mod RowsBack
pub mod RoundTrip
pub mod ReadLawful
