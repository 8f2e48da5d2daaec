pub mod Carrier
pub mod Kind
pub mod Best
pub mod Choice
pub mod Inner
pub mod Laws
