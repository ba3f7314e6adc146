pub mod Kind
pub mod Decision
