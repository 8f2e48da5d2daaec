pub mod Kind
pub mod Best
pub mod Choice
pub mod Laws
pub mod Inner
