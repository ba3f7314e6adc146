pub mod Answers
pub mod Part
pub mod Within
