pub mod Measure
pub mod Steps
