pub mod TakeIn
pub mod Steps
