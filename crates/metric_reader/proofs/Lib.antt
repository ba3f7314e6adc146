pub mod Part
pub mod Within
