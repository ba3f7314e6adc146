pub mod Arrivals
pub mod Steps
