pub mod Metrics
pub mod Steps
