pub mod Oldest
pub mod Steps
