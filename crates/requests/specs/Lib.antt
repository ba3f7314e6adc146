pub mod Requests
pub mod Steps
