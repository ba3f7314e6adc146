pub mod Rewrite
pub mod Steps
