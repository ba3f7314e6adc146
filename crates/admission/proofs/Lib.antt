pub mod Decided
pub mod KindOf
